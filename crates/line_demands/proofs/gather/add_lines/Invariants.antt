-- The lines at the positions so far.
use Rattle.std.proofs.Common.{◌*◌}
use Rattle.std.specs.List.{flat_map, range_with_len}
use Rattle.line_demands.specs.Gathered.{AreMoreSides}
use Rattle.line_demands.proofs.gather.add_lines.Given as goal
use Rattle.solid_model.specs.Demands.{lines_at}

abbrev pub invariant-loop-at : goal.invariant-loop-at
invariant-loop-at l = AreMoreSides l.problem (flat_map (lines_at l.problem.grid l.view l.upright) (range_with_len 0 l.at)) (l.at * 63) l.fn.sides.items l.sides.items
