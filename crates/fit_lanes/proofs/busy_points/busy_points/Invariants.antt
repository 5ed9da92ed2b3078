-- The points so far.
use Rattle.std.proofs.Common.{◌-◌}
use Rattle.fit_lanes.specs.Busy.{AreBusy}
use Rattle.fit_lanes.proofs.busy_points.busy_points.Given as goal

abbrev pub invariant-loop-after : goal.invariant-loop-after
invariant-loop-after l = AreBusy l.sights l.stride (l.after - l.stride) l.points.items
