-- The places so far are passed over.
use Rattle.std.proofs.Common.{◌≡◌, drop}
use Rattle.search_core.specs.Frontier.{count_without, passed}
use Rattle.search_core.proofs.frontier.first_without.Given as goal

abbrev pub invariant-loop-at : goal.invariant-loop-at
invariant-loop-at l = passed (count_without l.counts l.piece) (drop l.from l.put) ≡ passed (count_without l.counts l.piece) (drop l.at l.put)
