-- The block stands at the cell's place.
use Rattle.std.proofs.Common.{◌≡◌, ◌<◌, ◌≤◌, pos, false, refl, ap, sym, subst, ◌∙◌, arith}
use Rattle.std.proofs.lemmas.Bool.{and_left}
use Rattle.line_demands.specs.declared.gather.ColumnPlace.{ColumnPlace}
use Rattle.line_demands.proofs.ColumnPlaces.{line_within}
use Rattle.line_demands.proofs.CellsBeside.{none_at, block_there, column_stands}
use Rattle.line_demands.proofs.seen.block_beside.Goals as goal
use Rattle.solid_model.specs.declared.frame.View.{View}
use Rattle.solid_model.specs.Forcing.{place_beside}
use Rattle.solid_model.specs.Frames.{frame_of}
use Rattle.solid_model.specs.PerAxis.{numbers_of}
use Rattle.solid_model.specs.WalledBoxes.{Sizes, is_below}
use Rattle.solid_model.specs.GridBox.{grid_sizes, axis_along, axis_across}

pub block_at_depth-requires-clause-sizes : goal.block_at_depth-requires-clause-sizes
block_at_depth-requires-clause-sizes c = c.sizes-sizes.ensures.sizes ∙ ap grid_sizes c.grid.ensures.grid

pub returns-in_err-across-clause-block : goal.returns-in_err-across-clause-block
returns-in_err-across-clause-block c =
    let p = c.args.problem.now in
    let l = c.args.line in
    let sized : numbers_of c.sizes-sizes.result ≡ grid_sizes p.grid = c.sizes-sizes.ensures.sizes ∙ ap grid_sizes c.grid.ensures.grid in
    let within : l.at ≤ numbers_of c.sizes-sizes.result (axis_across l.view l.upright) = subst (λ (s : Sizes). l.at ≤ s (axis_across l.view l.upright)) (sym sized) (line_within p.grid l c.requires.line).0 in
    let out : is_below (grid_sizes p.grid (axis_across l.view l.upright)) (place_beside l c.args.of_after) ≡ false =
    subst (λ (s : Sizes). is_below (s (axis_across l.view l.upright)) (place_beside l c.args.of_after) ≡ false) sized (c.in_err-across.ensures.none refl within) in
    c.from_residual.ensures ∙ sym (none_at p c.grid.ensures.kept l (place_beside l c.args.of_after) (pos c.args.depth)
    (and_left (is_below (grid_sizes p.grid (axis_across l.view l.upright)) (place_beside l c.args.of_after)) _ out))

pub cells_of_column-cells-requires-clause-right : goal.cells_of_column-cells-requires-clause-right
cells_of_column-cells-requires-clause-right c =
    let l = c.args.line in
    let sized : numbers_of c.sizes-sizes.result ≡ grid_sizes c.args.problem.now.grid = c.sizes-sizes.ensures.sizes ∙ ap grid_sizes c.grid.ensures.grid in
    let cell = subst (λ (s : Sizes). l.cell < s (axis_along l.view l.upright)) (sym sized) (line_within c.args.problem.now.grid l c.requires.line).1 in
    let stands = column_stands (numbers_of c.sizes-sizes.result) l c.column_place-place.result c.in_ok-across.across c.column_place-place.ensures c.in_ok-across.ensures.some.1 cell in
    let few = c.sizes-sizes.ensures.few (axis_along c.column_place-place.result.view false) in
    omega (arith, stands.0, few)

pub cells_of_column-cells-requires-clause-up : goal.cells_of_column-cells-requires-clause-up
cells_of_column-cells-requires-clause-up c =
    let l = c.args.line in
    let sized : numbers_of c.sizes-sizes.result ≡ grid_sizes c.args.problem.now.grid = c.sizes-sizes.ensures.sizes ∙ ap grid_sizes c.grid.ensures.grid in
    let cell = subst (λ (s : Sizes). l.cell < s (axis_along l.view l.upright)) (sym sized) (line_within c.args.problem.now.grid l c.requires.line).1 in
    let stands = column_stands (numbers_of c.sizes-sizes.result) l c.column_place-place.result c.in_ok-across.across c.column_place-place.ensures c.in_ok-across.ensures.some.1 cell in
    let few = c.sizes-sizes.ensures.few (axis_across c.column_place-place.result.view false) in
    omega (arith, stands.1, few)

pub block_at_depth-requires-clause-right : goal.block_at_depth-requires-clause-right
block_at_depth-requires-clause-right c =
    let l = c.args.line in
    let sized : numbers_of c.sizes-sizes.result ≡ grid_sizes c.args.problem.now.grid = c.sizes-sizes.ensures.sizes ∙ ap grid_sizes c.grid.ensures.grid in
    let cell = subst (λ (s : Sizes). l.cell < s (axis_along l.view l.upright)) (sym sized) (line_within c.args.problem.now.grid l c.requires.line).1 in
    (column_stands (numbers_of c.sizes-sizes.result) l c.column_place-place.result c.in_ok-across.across c.column_place-place.ensures c.in_ok-across.ensures.some.1 cell).0

pub block_at_depth-requires-clause-up : goal.block_at_depth-requires-clause-up
block_at_depth-requires-clause-up c =
    let l = c.args.line in
    let sized : numbers_of c.sizes-sizes.result ≡ grid_sizes c.args.problem.now.grid = c.sizes-sizes.ensures.sizes ∙ ap grid_sizes c.grid.ensures.grid in
    let cell = subst (λ (s : Sizes). l.cell < s (axis_along l.view l.upright)) (sym sized) (line_within c.args.problem.now.grid l c.requires.line).1 in
    (column_stands (numbers_of c.sizes-sizes.result) l c.column_place-place.result c.in_ok-across.across c.column_place-place.ensures c.in_ok-across.ensures.some.1 cell).1

pub block_at_depth-requires-clause-depth : goal.block_at_depth-requires-clause-depth
block_at_depth-requires-clause-depth c =
    let sized : numbers_of c.sizes-sizes.result ≡ grid_sizes c.args.problem.now.grid = c.sizes-sizes.ensures.sizes ∙ ap grid_sizes c.grid.ensures.grid in
    subst (λ (s : Sizes). c.args.depth < s (frame_of c.column_place-place.result.view).away.axis) (sym sized)
    (subst (λ (v : View). c.args.depth < grid_sizes c.args.problem.now.grid (frame_of v).away.axis) (sym (ap (λ (x : ColumnPlace). x.view) c.column_place-place.ensures)) c.requires.depth)

pub returns-clause-block : goal.returns-clause-block
returns-clause-block c = c.block_at_depth.ensures.block ∙ block_there c.args.problem.now c.grid.ensures.kept c.args.line c.args.of_after c.column_place-place.result c.in_ok-across.across c.args.depth
    c.in_ok-across.ensures.some.0 c.column_place-place.ensures
