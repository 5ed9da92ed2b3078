use Rattle.std.proofs.Common.{◌≡◌, replicate}
use Rattle.solution_book.specs.Editions.{knows_nothing}
use Rattle.solution_book.proofs.book.Book.begin.Given as goal

-- the writer stays as it is, and each reader so far knows nothing
abbrev pub invariant-loop : goal.invariant-loop
invariant-loop g l = (l.writer ≡ l.initial.writer) × (l.others.items ≡ replicate l.counter knows_nothing)
