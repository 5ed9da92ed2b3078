-- The first ones are put.
use Rattle.std.proofs.Common.{◌≡◌, ◌+◌, ◌++◌, ℕ, take, length}
use Rattle.search_core.specs.Frontier.{count_of}
use Rattle.search_core.proofs.ledger.put_all.Given as goal
use Rattle.lemmas.specs.Counts.{times_listed}

abbrev pub invariant-loop-place : goal.invariant-loop-place
invariant-loop-place l = record {
  put : l.frontier.put ≡ l.initial.frontier.put ++ take l.place-index l.rest;
  ahead : l.frontier.ahead ≡ l.initial.frontier.ahead ++ take l.place-index l.rest;
  counts : (k : ℕ) → count_of l.frontier.counts k ≡ count_of l.initial.frontier.counts k + times_listed k (take l.place-index l.rest);
  places : length l.frontier.counts ≡ length l.initial.frontier.counts;
  capacity : l.frontier.capacity ≡ l.initial.frontier.capacity;
}
