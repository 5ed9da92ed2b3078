-- Across each axis the marks are the virtual faces.
use Rattle.std.proofs.Common.{refl}
use Rattle.solid_model.specs.Marks.{AreMarksOf}
use Rattle.solid_model.specs.WalledBoxes.{face_sizes}
use Rattle.solid_model.specs.VirtualFaces.{IsVirtual}
use Rattle.solid_model.specs.GridBox.{grid_sizes}
use Rattle.solid_model.proofs.MarkedCells.{marks_by_axis}
use Rattle.virtual_faces.proofs.faces.faces_of.Goals as goal

pub returns : goal.returns
returns c =
    let g = c.args.grid.now in
    marks_by_axis (λ a marks. AreMarksOf (face_sizes (grid_sizes g) a) (IsVirtual g a) marks) _ _ _ _ refl
    c.in_ok-faces_across.ensures c.in_ok-faces_across-2.ensures c.in_ok-faces_across-3.ensures
