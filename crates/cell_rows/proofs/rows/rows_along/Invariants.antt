-- The rows so far.
use Rattle.lemmas.proofs.Pushed.{HoldsSoFar}
use Rattle.cell_rows.proofs.RowCells.{IsRowAt}
use Rattle.cell_rows.proofs.rows.rows_along.Given as goal

abbrev pub invariant-loop-place : goal.invariant-loop-place
invariant-loop-place l = HoldsSoFar (IsRowAt l.marks l.axis) l.rows.items l.place
