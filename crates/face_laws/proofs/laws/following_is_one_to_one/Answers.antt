use Rattle.face_laws.proofs.JoinedSides.{following-joined}
use Rattle.face_laws.proofs.Turns.{following_border, following_one}
use Rattle.face_laws.proofs.laws.following_is_one_to_one.Goals as goal

pub returns-clause-border : goal.returns-clause-border
returns-clause-border c = following_border

pub returns-clause-one : goal.returns-clause-one
returns-clause-one c = following_one

pub returns-clause-joined : goal.returns-clause-joined
returns-clause-joined c = following-joined
