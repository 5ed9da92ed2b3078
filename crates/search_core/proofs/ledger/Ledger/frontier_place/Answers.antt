-- The prefix has one place, and it isn't counted.
use Rattle.std.proofs.Common.{◌≡◌, inl, inr, ◌<◌, sym, ◌∙◌, ap, arith}
use Rattle.std.proofs.lemmas.Bool.{iff_false, cases_lt}
use Rattle.search_core.specs.Frontier.{count_of}
use Rattle.search_core.proofs.ledger.Ledger.frontier_place.Goals as goal

pub returns-else-holds : goal.returns-else-holds
returns-else-holds c k stands =
    let counts = c.args.self.now.frontier.counts in
    let here = c.in_ok-place.ensures in
    let same : k ≡ c.in_ok-place.place = c.known.ensures k c.in_ok-place.place stands.below here.below (stands.there ∙ sym here.there) in
    let none : 0 < count_of counts c.in_ok-place.place → ⊥ = iff_false c.holds.ensures c.if-holds.false in
    ap (count_of counts) same ∙ elim (cases_lt 0 (count_of counts c.in_ok-place.place)) as (λ _. count_of counts c.in_ok-place.place ≡ 0) [ inl l ↦ absurd (none l) | inr m ↦ omega arith ]
