-- The side that follows ends at a point of the table.
use Rattle.std.proofs.Common.{sym, subst}
use Rattle.faces.specs.Border.{IsTableSpot}
use Rattle.faces.specs.PlaneSquares.{is_there}
use Rattle.faces.specs.Points.{spot_of}
use Rattle.faces.specs.Ways.{heading_of}
use Rattle.faces.proofs.Sides.{follows, border_on, table_point}
use Rattle.faces.proofs.border.Border.side_after.Goals as goal

pub step-requires : goal.step-requires
step-requires c =
    border_on c.args.self.now.squares.now (spot_of c.args.side.end) (heading_of c.args.side.way) (heading_of c.way_on-way.result) c.requires
    c.way_on-way.ensures

pub returns-clause-side : goal.returns-clause-side
returns-clause-side c =
    follows (is_there c.args.self.now.squares.now) (spot_of c.args.side.end) (heading_of c.args.side.way) (heading_of c.way_on-way.result)
    (spot_of c.step.result) c.way_on-way.ensures c.step.ensures

pub returns-clause-within : goal.returns-clause-within
returns-clause-within c =
    let t = c.args.self.now.squares.now in
    table_point t c.step.result (subst (IsTableSpot) (sym c.step.ensures)
    (border_on t (spot_of c.args.side.end) (heading_of c.args.side.way) (heading_of c.way_on-way.result) c.requires c.way_on-way.ensures))
