use Rattle.std.proofs.Common.{◌≡◌, ◌++◌, take}
use Rattle.solution_book.proofs.solids.Solids.with.Given as goal

abbrev pub invariant-loop-choice : goal.invariant-loop-choice
invariant-loop-choice l = l.longer ≡ l.fn.self ++ take l.choice-index l.more
