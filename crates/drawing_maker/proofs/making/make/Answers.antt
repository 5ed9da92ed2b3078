-- The ticks of the number's cubes, the cells between them and what those draw make the grid.
use Rattle.std.proofs.Common.{drop, ap, sym, subst, ◌∙◌}
use Rattle.std.proofs.lemmas.Result.{IfOk-from_err}
use Rattle.drawing_maker.specs.Making.{IsMade}
use Rattle.drawing_maker.specs.Rows.{AreSmall, row_ticks, cells_before}
use Rattle.drawing_maker.proofs.MadeGrid.{made_are_small, few_counts, some_ticks, is_grid, is_made}
use Rattle.drawing_maker.proofs.making.make.Goals as goal

pub ticks_of-requires : goal.ticks_of-requires
ticks_of-requires c = subst AreSmall (sym (c.deref.ensures.value ∙ c.in_ok-cubes.ensures)) (made_are_small c.args.n)

pub returns-in_err-ticks : goal.returns-in_err-ticks
returns-in_err-ticks c = IfOk-from_err _ _ c.from_residual-in_err-ticks.ensures.0

pub cells_between-requires : goal.cells_between-requires
cells_between-requires c = some_ticks c.args.n _ (c.deref-2.ensures.value ∙ c.in_ok-ticks.ensures ∙ ap row_ticks (c.deref.ensures.value ∙ c.in_ok-cubes.ensures))

pub returns-in_err-cells : goal.returns-in_err-cells
returns-in_err-cells c = IfOk-from_err _ _ c.from_residual-in_err-cells.ensures.0

pub draw_in-requires : goal.draw_in-requires
draw_in-requires c = few_counts c.args.n c.deref-2.result.now c.len-count.result
    (c.deref-2.ensures.value ∙ c.in_ok-ticks.ensures ∙ ap row_ticks (c.deref.ensures.value ∙ c.in_ok-cubes.ensures))
    (c.len-count.ensures ∙ sym c.deref-2.ensures.len)

pub grid_over-requires : goal.grid_over-requires
grid_over-requires c = is_grid c.args.n c.deref-4.result.now c.deref-3.result.now c.in_ok-panels.panels c.len-count.result
    (c.deref-4.ensures.value ∙ c.in_ok-ticks.ensures ∙ ap row_ticks (c.deref.ensures.value ∙ c.in_ok-cubes.ensures))
    (c.deref-3.ensures.value ∙ c.in_ok-cells.ensures ∙ ap (λ s. cells_before (drop 1 s)) (c.deref-2.ensures.value ∙ sym c.deref-4.ensures.value))
    (c.len-count.ensures ∙ sym c.deref-4.ensures.len) c.in_ok-panels.ensures

pub returns : goal.returns
returns c = subst (λ g. IsMade c.args.n g c.in_ok-cells.cells.items) (sym c.in_ok-grid.ensures)
    (subst (IsMade c.args.n _) c.deref-3.ensures.value
    (is_made c.args.n c.deref-4.result.now c.deref-3.result.now c.in_ok-panels.panels c.len-count.result
    (c.deref-4.ensures.value ∙ c.in_ok-ticks.ensures ∙ ap row_ticks (c.deref.ensures.value ∙ c.in_ok-cubes.ensures))
    (c.deref-3.ensures.value ∙ c.in_ok-cells.ensures ∙ ap (λ s. cells_before (drop 1 s)) (c.deref-2.ensures.value ∙ sym c.deref-4.ensures.value))
    (c.len-count.ensures ∙ sym c.deref-4.ensures.len) c.in_ok-panels.ensures))
