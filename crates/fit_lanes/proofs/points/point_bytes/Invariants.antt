-- The bytes of the points so far.
use Rattle.std.proofs.Common.{◌≡◌, ◌/◌, ◌%◌}
use Rattle.lemmas.proofs.Pushed.{HoldsSoFar}
use Rattle.fit_lanes.specs.Points.{point_byte}
use Rattle.fit_lanes.proofs.points.point_bytes.Given as goal

abbrev pub invariant-loop-place : goal.invariant-loop-place
invariant-loop-place l = HoldsSoFar (λ p byte. byte ≡ point_byte l.width l.height l.upright l.styles (p % l.stride) (p / l.stride)) l.bytes.items l.place
