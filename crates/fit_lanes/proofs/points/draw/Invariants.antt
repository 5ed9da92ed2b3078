-- What is drawn at the points so far, and what was drawn at the others.
use Rattle.std.proofs.Common.{take}
use Rattle.fit_lanes.proofs.BusyPoints.{AreSetAt, IsLeftDrawn}
use Rattle.fit_lanes.proofs.points.draw.Given as goal

abbrev pub invariant-loop-point : goal.invariant-loop-point
invariant-loop-point l = AreSetAt (IsLeftDrawn l.kept l.columns l.stride l.upright) l.fn.drawn (take l.point-index l.points) l.drawn
