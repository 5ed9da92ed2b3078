use Rattle.solid_model.specs.Faces.{place}
use Rattle.face_laws.proofs.FacePlaces.{place_keeps}
use Rattle.face_laws.proofs.LeastSides.{least_begins, least_others}
use Rattle.face_laws.proofs.laws.least_sides_end_at_corners.Goals as goal

pub returns-clause-begins : goal.returns-clause-begins
returns-clause-begins c = λ squares out at. least_begins squares (place out at) (place_keeps out at)

pub returns-clause-others : goal.returns-clause-others
returns-clause-others c = λ squares out at. least_others squares (place out at) (place_keeps out at)
