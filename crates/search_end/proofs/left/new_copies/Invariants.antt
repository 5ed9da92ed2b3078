-- The new ones so far.
use Rattle.std.proofs.Common.{◌≡◌, take}
use Rattle.search_end.specs.Answers.{new_ones}
use Rattle.search_end.proofs.left.new_copies.Given as goal

abbrev pub invariant-loop-choice : goal.invariant-loop-choice
invariant-loop-choice l = l.copies.items ≡ new_ones l.fn.handed (take l.choice-index l.found)
