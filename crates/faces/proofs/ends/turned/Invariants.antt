-- The columns so far.
use Rattle.lemmas.proofs.Pushed.{HoldsSoFar}
use Rattle.faces.proofs.PointEnds.{IsColumnAt}
use Rattle.faces.proofs.ends.turned.Given as goal

abbrev pub invariant-loop-number : goal.invariant-loop-number
invariant-loop-number l = HoldsSoFar (IsColumnAt l.rows) l.columns.items l.number
