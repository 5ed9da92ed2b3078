-- The block stands at the cell's place.
use Rattle.std.proofs.Common.{◌≡◌, ◌<◌, ◌≤◌, ◌+◌, ◌*◌, None, get_or, pos, ap, sym, subst, ◌∙◌, arith}
use Rattle.std.specs.Prelude.{IfSome}
use Rattle.std.proofs.lemmas.Nat.{mul-le}
use Rattle.solid_model.specs.GridPlaces.{number_on}
use Rattle.line_demands.specs.SightCells.{AreColumnCells}
use Rattle.line_demands.specs.Touching.{view_width, view_height, shown_cell}
use Rattle.line_demands.proofs.CellPlaces.{block_told}
use Rattle.line_demands.proofs.Gathering.{block_below}
use Rattle.line_demands.proofs.gather.block_at_depth.Goals as goal
use Rattle.solid_model.specs.Frames.{frame_of}
use Rattle.solid_model.specs.WalledBoxes.{Sizes}
use Rattle.solid_model.specs.GridBox.{grid_sizes}

pub overflow_add-cells : goal.overflow_add-cells
overflow_add-cells c =
    let few = c.number_on-along.ensures.few (let l = c.requires.few c.frame.result.away.axis in omega arith) in
    let l : c.number_on-along.result * c.args.cells.step ≤ 64 * 266304 = mul-le c.number_on-along.result c.args.cells.step 64 266304 few c.requires.few_step in
    omega (arith, l, c.requires.few_first)

pub returns-clause-block : goal.returns-clause-block
returns-clause-block c =
    let p = c.args.problem.now in
    let at = c.args.place in
    let sized = c.requires.sizes in
    let along : c.number_on-along.result ≡ number_on (grid_sizes p.grid) (frame_of at.view).away c.args.depth =
    c.number_on-along.ensures.same ∙ (λ t. number_on (sized t) (c.frame.ensures t).away c.args.depth) in
    c.listed.ensures ∙ ap (λ ns. get_or ns (c.args.cells.first + c.number_on-along.result * c.args.cells.step) None) (c.numbers.ensures ∙ ap (λ b. b.numbers) c.blocks-2.ensures)
    ∙ block_told p (λ t a. c.known.ensures.blocks.sized a t) at c.args.cells (subst (λ (s : Sizes). AreColumnCells s at c.args.cells) sized c.requires.cells) c.args.depth c.number_on-along.result along
    (subst (λ (s : Sizes). at.right < view_width s at.view) sized c.requires.right) (subst (λ (s : Sizes). at.up < view_height s at.view) sized c.requires.up)
    (subst (λ (s : Sizes). c.args.depth < s (frame_of at.view).away.axis) sized c.requires.depth)

pub returns-clause-below : goal.returns-clause-below
returns-clause-below c =
    let p = c.args.problem.now in
    let at = c.args.place in
    subst (λ r. IfSome r (λ b. b < p.blocks.count)) (sym (returns-clause-block c))
    (block_below p c.known.ensures.blocks (shown_cell (grid_sizes p.grid) at.view at.right at.up (pos c.args.depth)))
