-- The column of that number.
use Rattle.std.proofs.Common.{◌≡◌, ◌<◌, pos, length, ap, sym, subst, ◌∙◌, arith}
use Rattle.std.proofs.lemmas.List.{get_or_default}
use Rattle.line_demands.specs.declared.known.KnownColumn.{KnownColumn}
use Rattle.solid_model.specs.Known.{known_bits, LiesWithin}
use Rattle.solid_model.specs.Decisions.{decided_by, PartialParts}
use Rattle.line_demands.specs.KeptColumns.{column_count, column_number}
use Rattle.line_demands.specs.Touching.{view_width, view_height, shown_cell}
use Rattle.line_demands.specs.Spans.{no_column, known_there}
use Rattle.line_demands.proofs.partial.Partial.mask.Goals as goal
use Rattle.solid_model.specs.Demands.{known_cell}
use Rattle.solid_model.specs.PerAxis.{numbers_of}
use Rattle.solid_model.specs.WalledBoxes.{Sizes}
use Rattle.solid_model.specs.GridBox.{grid_sizes}

pub number_of_column-requires-clause-right : goal.number_of_column-requires-clause-right
number_of_column-requires-clause-right c =
    let sized : numbers_of c.sizes-sizes.result ≡ grid_sizes c.self.inside.problem.now.grid = c.sizes-sizes.ensures.sizes ∙ ap grid_sizes c.grid.ensures.grid in
    subst (λ (s : Sizes). c.from.result < view_width s c.args.view) (sym sized)
    (subst (λ n. n < view_width (grid_sizes c.self.inside.problem.now.grid) c.args.view) (sym c.from.ensures)
    (subst (λ (v : PartialParts). c.args.right < view_width (grid_sizes v.problem.grid) c.args.view) (sym c.self.view_is) c.requires.right))

pub number_of_column-requires-clause-up : goal.number_of_column-requires-clause-up
number_of_column-requires-clause-up c =
    let sized : numbers_of c.sizes-sizes.result ≡ grid_sizes c.self.inside.problem.now.grid = c.sizes-sizes.ensures.sizes ∙ ap grid_sizes c.grid.ensures.grid in
    subst (λ (s : Sizes). c.from-2.result < view_height s c.args.view) (sym sized)
    (subst (λ n. n < view_height (grid_sizes c.self.inside.problem.now.grid) c.args.view) (sym c.from-2.ensures)
    (subst (λ (v : PartialParts). c.args.up < view_height (grid_sizes v.problem.grid) c.args.view) (sym c.self.view_is) c.requires.up))

pub index-column-requires : goal.index-column-requires
index-column-requires c =
    let sized : numbers_of c.sizes-sizes.result ≡ grid_sizes c.self.inside.problem.now.grid = c.sizes-sizes.ensures.sizes ∙ ap grid_sizes c.grid.ensures.grid in
    let inside : c.number_of_column.result < column_count (grid_sizes c.self.inside.problem.now.grid) = subst (λ (s : Sizes). c.number_of_column.result < column_count s) sized c.number_of_column.ensures.inside in
    omega (arith, inside, c.self.invariant.0.state.known.count, c.self.inside.columns.ok.0)

pub returns-clause-within : goal.returns-clause-within
returns-clause-within c =
    let self = c.self.inside in
    let sized : numbers_of c.sizes-sizes.result ≡ grid_sizes self.problem.now.grid = c.sizes-sizes.ensures.sizes ∙ ap grid_sizes c.grid.ensures.grid in
    let inside : c.number_of_column.result < column_count (grid_sizes self.problem.now.grid) = subst (λ (s : Sizes). c.number_of_column.result < column_count s) sized c.number_of_column.ensures.inside in
    let l : c.number_of_column.result < length self.columns.items = omega (arith, inside, c.self.invariant.0.state.known.count) in
    subst (λ (x : KnownColumn). LiesWithin x.full x.may) (get_or_default self.columns.items c.number_of_column.result no_column c.index-column.result.now l ∙ sym c.index-column.ensures)
    (c.self.invariant.0.state.known.within c.number_of_column.result)

pub returns-clause-known : goal.returns-clause-known
returns-clause-known c = λ k.
    let self = c.self.inside in
    let p = self.problem.now in
    let sized : numbers_of c.sizes-sizes.result ≡ grid_sizes p.grid = c.sizes-sizes.ensures.sizes ∙ ap grid_sizes c.grid.ensures.grid in
    let inside : c.number_of_column.result < column_count (grid_sizes p.grid) = subst (λ (s : Sizes). c.number_of_column.result < column_count s) sized c.number_of_column.ensures.inside in
    let l : c.number_of_column.result < length self.columns.items = omega (arith, inside, c.self.invariant.0.state.known.count) in
    let right : c.args.right < view_width (grid_sizes p.grid) c.args.view = subst (λ (v : PartialParts). c.args.right < view_width (grid_sizes v.problem.grid) c.args.view) (sym c.self.view_is) c.requires.right in
    let up : c.args.up < view_height (grid_sizes p.grid) c.args.view = subst (λ (v : PartialParts). c.args.up < view_height (grid_sizes v.problem.grid) c.args.view) (sym c.self.view_is) c.requires.up in
    let same : c.number_of_column.result ≡ column_number (grid_sizes p.grid) c.args.view c.args.right c.args.up =
    c.number_of_column.ensures.same ∙ (λ t. column_number (sized t) c.args.view (c.from.ensures t) (c.from-2.ensures t)) in
    ap (λ (x : KnownColumn). known_bits x.full x.may (pos k)) (c.index-column.ensures ∙ get_or_default self.columns.items c.number_of_column.result c.index-column.result.now no_column l)
    ∙ ap (λ n. known_there self.columns.items n k) same
    ∙ c.self.invariant.0.state.known.each c.args.view c.args.right c.args.up k right up
    ∙ ap (λ (v : PartialParts). known_cell v.problem.blocks (decided_by v.decisions) (shown_cell (grid_sizes v.problem.grid) c.args.view c.args.right c.args.up (pos k))) c.self.view_is
