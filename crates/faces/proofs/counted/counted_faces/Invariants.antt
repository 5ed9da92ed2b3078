-- The faces of the sides so far.
use Rattle.solid_model.specs.Marks.{is_marked}
use Rattle.faces.specs.FacesSoFar.{AreFacesBefore}
use Rattle.faces.proofs.counted.counted_faces.Given as goal

abbrev pub invariant-loop-out : goal.invariant-loop-out
invariant-loop-out l = AreFacesBefore (is_marked l.cells) l.out-index 0 l.faces.items
