-- The cell is one of the block, and undecided.
use Rattle.std.proofs.Common.{Some, sym, ap, ◌∙◌}
use Rattle.line_demands.proofs.ExcludedCells.{cell_told}
use Rattle.line_demands.proofs.excluding.cell_excludes.Goals as goal

pub returns-else-other-block : goal.returns-else-other-block
returns-else-other-block c = cell_told c.args.problem.now c.args.seen c.args.of_after c.args.depth c.args.block c.args.value c.can_draw_with.result
    c.column_of-column.result c.column_of-beyond.result c.column_of-column.ensures.column c.column_of-beyond.ensures.column
    (sym c.in-Some.ensures.block ∙ ap Some c.if-other-block.false) (c.is_free.ensures.0 c.if-not-is_free.false) c.can_draw_with.ensures
