use Rattle.std.proofs.Common.{map}
use Rattle.solid_model.specs.Cells.{is_full}
use Rattle.solid_model.specs.Faces.{place, is_boundary}
use Rattle.face_laws.proofs.BoundarySquares.{spot_of, boundary_finite}
use Rattle.face_laws.proofs.FacePlaces.{place_keeps}
use Rattle.face_laws.proofs.RoundStarts.{one_start}
use Rattle.face_laws.proofs.SomeLoop.{some_round}
use Rattle.face_laws.proofs.laws.each_side_is_on_one_loop.Goals as goal

pub returns-clause-some : goal.returns-clause-some
returns-clause-some c = λ s out at r border.
    some_round (is_boundary (is_full s) out at) (map (spot_of out) s) (boundary_finite s out at) (place out at) (place_keeps out at) r border

pub returns-clause-one : goal.returns-clause-one
returns-clause-one c = λ squares out at. one_start squares (place out at) (place_keeps out at)
