-- The columns don't leave each other free.
use Rattle.std.proofs.lemmas.Bool.{not-false}
use Rattle.line_demands.proofs.lines.may_force.Goals as goal

pub returns : goal.returns
returns c = λ none. c.are_free.ensures (not-false c.are_free.result none)
