-- One view more.
use Rattle.line_demands.proofs.gather.all_sides.Goals as goal
use Rattle.line_demands.proofs.MoreSides.{all_listed}

pub returns-clause-sides : goal.returns-clause-sides
returns-clause-sides c =
    let start = c.new-sides.result.items in
    all_listed c.args.problem.now start c.add_view.new.sides.items c.add_view-2.new.sides.items c.add_view-3.new.sides.items c.new-sides.ensures.items
    c.in_ok-add_view.ensures c.in_ok-add_view-2.ensures c.in_ok-add_view-3.ensures
