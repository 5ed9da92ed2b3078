-- The rows so far.
use Rattle.std.proofs.Common.{map}
use Rattle.lemmas.proofs.Pushed.{HoldsSoFar}
use Rattle.cell_rows.proofs.SpanRows.{AreSpansAt}
use Rattle.cell_rows.proofs.block_rows.spans_along.Given as goal

abbrev pub invariant-loop-place : goal.invariant-loop-place
invariant-loop-place l = HoldsSoFar (AreSpansAt l.blocks l.axis) (map (λ r. r.items) l.rows.items) l.place
