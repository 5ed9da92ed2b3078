use Rattle.face_laws.proofs.GridFaces.{faces_are_in_space}
use Rattle.face_laws.proofs.GridPlanes.{union_faces}
use Rattle.face_laws.proofs.laws.faces_of_grid_cells.Goals as goal

pub returns-clause-cells : goal.returns-clause-cells
returns-clause-cells c = faces_are_in_space

pub returns-clause-union : goal.returns-clause-union
returns-clause-union c = union_faces
