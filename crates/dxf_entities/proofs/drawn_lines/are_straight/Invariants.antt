-- What is left to be looked at tells what all tells.
use Rattle.std.proofs.Common.{◌≡◌, drop}
use Rattle.dxf_entities.specs.DrawnLines.{are_straight_from}
use Rattle.dxf_entities.proofs.drawn_lines.are_straight.Given as goal

abbrev pub invariant-loop-to : goal.invariant-loop-to
invariant-loop-to l =
    are_straight_from l.from (drop l.to-index l.rest) ≡ are_straight_from l.fn.first l.rest
