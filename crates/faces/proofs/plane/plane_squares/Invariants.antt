-- The rows so far.
use Rattle.std.proofs.Common.{pos}
use Rattle.lemmas.proofs.Pushed.{HoldsSoFar}
use Rattle.faces.proofs.PlaneBoundary.{IsBoundaryRow}
use Rattle.faces.proofs.plane.plane_squares.Given as goal

abbrev pub invariant-loop-v : goal.invariant-loop-v
invariant-loop-v l = HoldsSoFar (IsBoundaryRow l.cells l.fn.out (pos l.at)) l.rows.items l.v
