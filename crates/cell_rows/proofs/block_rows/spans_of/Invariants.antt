-- The spans so far.
use Rattle.std.proofs.Common.{◌++◌, ◌∷◌, []}
use Rattle.cell_rows.proofs.FilledSpans.{IsRowSoFar}
use Rattle.cell_rows.proofs.block_rows.spans_of.Given as goal

abbrev pub invariant-loop-number : goal.invariant-loop-number
invariant-loop-number l = IsRowSoFar l.blocks l.axis l.cell (l.spans.items ++ l.last ∷ []) l.number
