use Rattle.std.proofs.Common.{◌≡◌, take}
use Rattle.solution_book.proofs.solids.Solids.begin_with.Given as goal

-- so far they are the same
abbrev pub invariant-loop-place : goal.invariant-loop-place
invariant-loop-place l = take l.place l.fn.self ≡ take l.place l.fn.earlier
