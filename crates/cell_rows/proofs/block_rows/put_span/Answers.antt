-- What is left out is of no block.
use Rattle.std.proofs.Common.{sym, ◌∙◌}
use Rattle.cell_rows.proofs.FilledSpans.{filled_without}
use Rattle.cell_rows.proofs.block_rows.put_span.Goals as goal

pub returns-else-is_some : goal.returns-else-is_some
returns-else-is_some c choice k =
    filled_without choice c.args.spans.now.items c.args.span k (sym c.is_some.ensures ∙ c.if-is_some.false)
