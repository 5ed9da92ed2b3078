-- The place is one that is ahead, of the rest, or that of the first piece now.
use Rattle.std.proofs.Common.{◌<◌, ℕ, length, sym, subst}
use Rattle.search_core.specs.Frontier.{count_without, passed}
use Rattle.search_core.proofs.FirstPieces.{each-first, each-passed}
use Rattle.search_core.proofs.ledger.Ledger.placed_first.Goals as goal

pub led-requires-clause-to : goal.led-requires-clause-to
led-requires-clause-to c =
    let b = c.args.self.now in
    let known = c.requires.first in
    subst (λ (k : ℕ). k < length b.prefixes) (sym c.next_first-place.ensures)
    (each-first (λ k. k < length b.prefixes) _ (passed (count_without b.frontier.counts c.args.piece) b.frontier.ahead)
    (each-first (λ k. k < length b.prefixes) b.first.place c.args.rest.now known.stands.below c.requires.rest)
    (each-passed (λ k. k < length b.prefixes) (count_without b.frontier.counts c.args.piece) b.frontier.ahead known.ahead))

pub returns-clause-prefix : goal.returns-clause-prefix
returns-clause-prefix c =
    let b = c.args.self.now in
    let known = c.requires.first in
    record {
      below = subst (λ (k : ℕ). k < length b.prefixes) (sym c.next_first-place.ensures)
          (each-first (λ k. k < length b.prefixes) _ (passed (count_without b.frontier.counts c.args.piece) b.frontier.ahead)
          (each-first (λ k. k < length b.prefixes) b.first.place c.args.rest.now known.stands.below c.requires.rest)
          (each-passed (λ k. k < length b.prefixes) (count_without b.frontier.counts c.args.piece) b.frontier.ahead known.ahead));
      there = sym c.in_ok-prefix.ensures;
    }
