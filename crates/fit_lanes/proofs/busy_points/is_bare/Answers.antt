-- All three were looked at.
use Rattle.fit_lanes.proofs.BusyPoints.{bare_at}
use Rattle.fit_lanes.proofs.busy_points.is_bare.Goals as goal

pub returns : goal.returns
returns c = λ yes. bare_at c.args.sights.now c.args.stride c.args.after c.requires.stride c.requires.apart
    (c.is_empty.ensures c.if-not-is_empty.false) (c.is_empty-2.ensures c.if-not-is_empty-2.false) (c.is_empty-3.ensures yes)
