-- The drawn lines so far.
use Rattle.line_demands.specs.WholeChoices.{ListDrawn}
use Rattle.line_demands.proofs.whole.drawn_lines.Given as goal

abbrev pub invariant-loop-number : goal.invariant-loop-number
invariant-loop-number l = ListDrawn l.sides l.number l.numbers.items
