use Rattle.face_laws.proofs.SomeFaces.{some_faces}
use Rattle.face_laws.proofs.laws.no_solid_lacks_faces.Goals as goal

pub returns : goal.returns
returns c = some_faces
