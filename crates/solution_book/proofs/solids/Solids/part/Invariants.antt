use Rattle.std.proofs.Common.{◌≡◌, ◌-◌, take, drop}
use Rattle.solution_book.proofs.solids.Solids.part.Given as goal

abbrev pub invariant-loop-place : goal.invariant-loop-place
invariant-loop-place l = l.part.items ≡ take (l.place - l.fn.from) (drop l.fn.from l.fn.self)
