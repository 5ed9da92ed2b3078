-- Where the ends have marks they are pseudo vertices.
use Rattle.pseudo_wire.proofs.MarkedPoints.{edges_of_marked}
use Rattle.pseudo_wire.proofs.wire.edges_along.Goals as goal

pub returns : goal.returns
returns c = edges_of_marked c.args.grid.now c.args.points.now c.args.axis c.in_ok-marks.marks c.requires c.in_ok-marks.ensures
