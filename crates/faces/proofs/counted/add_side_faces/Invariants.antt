-- The faces of the planes so far.
use Rattle.solid_model.specs.Faces.{out_number}
use Rattle.solid_model.specs.Marks.{is_marked}
use Rattle.faces.specs.FacesSoFar.{AreFacesBefore}
use Rattle.faces.proofs.counted.add_side_faces.Given as goal

abbrev pub invariant-loop-at : goal.invariant-loop-at
invariant-loop-at l = AreFacesBefore (is_marked l.cells) (out_number l.out) l.at l.faces.items
