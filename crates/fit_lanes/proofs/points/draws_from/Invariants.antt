-- At none of the points so far something is drawn.
use Rattle.std.proofs.Common.{◌≡◌, ℕ, ◌+◌, ◌*◌, ◌<◌, slice_index_or}
use Rattle.fit_lanes.proofs.points.draws_from.Given as goal

abbrev pub invariant-loop-point : goal.invariant-loop-point
invariant-loop-point l = (m : ℕ) → m < l.point → slice_index_or l.drawn (l.first + m * l.apart) 0 ≡ 0
