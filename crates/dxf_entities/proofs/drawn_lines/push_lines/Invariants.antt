-- What is left is straight; and with its lines all that are owed are there.
use Rattle.std.proofs.Common.{◌≡◌, ◌++◌, true, drop}
use Rattle.dxf_entities.specs.DrawnLines.{are_straight_from, lines_from}
use Rattle.dxf_entities.proofs.drawn_lines.push_lines.Given as goal

abbrev pub invariant-loop-to : goal.invariant-loop-to
invariant-loop-to l = record {
  straight : are_straight_from l.from (drop l.to-index l.rest) ≡ true;
  lines : l.lines.items ++ lines_from l.line l.pen l.from (drop l.to-index l.rest)
      ≡ l.fn.lines.items ++ lines_from l.line l.pen l.fn.first l.rest;
}
