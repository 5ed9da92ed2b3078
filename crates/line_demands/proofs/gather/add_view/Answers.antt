-- The level lines and the upright ones.
use Rattle.std.proofs.Common.{◌≡◌, true, rules}
use Rattle.solid_model.specs.Wire.{is_drawn_view}
use Rattle.line_demands.proofs.MoreSides.{view_listed}
use Rattle.line_demands.proofs.gather.add_view.Goals as goal

pub returns : goal.returns
returns c =
    let p = c.args.problem.now in
    let shown : is_drawn_view p.grid c.args.view ≡ true = search rules in
    view_listed p c.args.view shown c.args.sides.now.items c.add_lines.new.sides.items c.add_lines-2.new.sides.items c.in_ok-add_lines.ensures c.in_ok-add_lines-2.ensures
