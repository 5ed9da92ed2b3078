-- The rows so far, and the row below the next one.
use Rattle.std.proofs.Common.{◌≡◌}
use Rattle.lemmas.proofs.Pushed.{HoldsSoFar}
use Rattle.faces.proofs.PointEnds.{IsEndRow, row_below}
use Rattle.faces.proofs.ends.ends_by_rows.Given as goal

abbrev pub invariant-loop-v : goal.invariant-loop-v
invariant-loop-v l = record {
  rows : HoldsSoFar (IsEndRow l.squares) l.ends.items l.v;
  below : l.below ≡ row_below l.squares l.v;
}
