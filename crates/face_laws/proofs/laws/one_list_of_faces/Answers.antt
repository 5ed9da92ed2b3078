use Rattle.face_laws.proofs.FaceLists.{one_list_of_faces}
use Rattle.face_laws.proofs.laws.one_list_of_faces.Goals as goal

pub returns : goal.returns
returns c = one_list_of_faces
