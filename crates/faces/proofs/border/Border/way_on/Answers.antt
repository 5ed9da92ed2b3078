-- To the left, straight on, or to the right.
use Rattle.std.proofs.Common.{◌∙◌, sym}
use Rattle.faces.specs.PlaneSquares.{is_there}
use Rattle.faces.specs.Points.{spot_of}
use Rattle.faces.specs.Ways.{heading_of}
use Rattle.faces.proofs.Sides.{goes_left, goes_straight, goes_right}
use Rattle.faces.proofs.border.Border.way_on.Goals as goal

pub returns-then-leads : goal.returns-then-leads
returns-then-leads c =
    goes_left (is_there c.args.self.now.squares.now) (spot_of c.args.side.end) (heading_of c.args.side.way) (heading_of c.turned_left-left.result)
    c.turned_left-left.ensures (sym c.leads.ensures ∙ c.if-leads.true)

pub returns-then-leads-2 : goal.returns-then-leads-2
returns-then-leads-2 c =
    goes_straight (is_there c.args.self.now.squares.now) (spot_of c.args.side.end) (heading_of c.args.side.way) (heading_of c.turned_left-left.result)
    c.turned_left-left.ensures (sym c.leads.ensures ∙ c.if-leads.false) (sym c.leads-else-leads.ensures ∙ c.if-leads-2.true)

pub returns-else-leads-2 : goal.returns-else-leads-2
returns-else-leads-2 c =
    c.turned_right.ensures
    ∙ goes_right (is_there c.args.self.now.squares.now) (spot_of c.args.side.end) (heading_of c.args.side.way) (heading_of c.turned_left-left.result)
    c.turned_left-left.ensures (sym c.leads.ensures ∙ c.if-leads.false) (sym c.leads-else-leads.ensures ∙ c.if-leads-2.false)
