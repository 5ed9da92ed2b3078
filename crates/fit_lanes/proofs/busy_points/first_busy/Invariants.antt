-- None of the points so far stands on a line before it.
use Rattle.std.proofs.Common.{take}
use Rattle.fit_lanes.specs.Busy.{IsNoLater}
use Rattle.fit_lanes.proofs.busy_points.first_busy.Given as goal

abbrev pub invariant-loop-point : goal.invariant-loop-point
invariant-loop-point l = IsNoLater l.stride l.upright (take l.point-index l.points) l.first
