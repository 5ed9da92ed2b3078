-- The corners so far.
use Rattle.std.proofs.Common.{◌≡◌, map, take, pos}
use Rattle.solid_model.specs.Faces.{place}
use Rattle.faces.specs.Points.{spot_of}
use Rattle.faces.proofs.space.corners_in_space.Given as goal

abbrev pub invariant-loop-point : goal.invariant-loop-point
invariant-loop-point l = l.corners.items ≡ map (place l.out (pos l.at)) (map spot_of (take l.point-index l.points))
