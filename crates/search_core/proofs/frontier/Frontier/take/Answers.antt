-- The frontier goes on with the next place that is counted.
use Rattle.std.proofs.Common.{◌≡◌, ◌-◌, ◌<◌, ◌≤◌, ℕ, List, length, get_or, drop, sym, ap, subst}
use Rattle.std.proofs.lemmas.List.{get_or_read}
use Rattle.search_core.specs.Frontier.{count_of, count_without, passed, FrontierParts}
use Rattle.search_core.proofs.FrontierPlaces.{count-within, frontier-take}
use Rattle.search_core.proofs.frontier.Frontier.take.Goals as goal

pub invariant_of-self : goal.invariant_of-self
invariant_of-self c =
    let put = c.self.inside.put.items in
    let counts = c.self.inside.counts.items in
    let first = c.self.inside.first in
    let place = c.args.place in
    let there : 0 < count_of counts place = subst (λ (v : FrontierParts). 0 < count_of v.counts place) (sym c.self.view_is) c.requires in
    let l = count-within counts place there in
    let is : c.index_mut.result.now ≡ count_of counts place = get_or_read counts place c.index_mut.result.now l c.index_mut.ensures.value 0 in
    let found = c.first_without-self-inside in
    frontier-take put counts first found.result place (c.index_mut.result.now - 1) c.self.invariant l (ap (λ (n : ℕ). n - 1) is)
    (subst (λ (ps : List ℕ). found.result ≤ length ps) c.as_slice.ensures.value found.ensures.within)
    (subst (λ (ps : List ℕ). passed (count_without counts place) (drop first ps) ≡ drop found.result ps) c.as_slice.ensures.value
    (subst (λ (cs : List ℕ). passed (count_without cs place) (drop first c.as_slice.result.now) ≡ drop found.result c.as_slice.result.now) c.as_slice-2.ensures.value found.ensures.passed))
    (subst (λ (ps : List ℕ). found.result < length ps → 0 < count_without counts place (get_or ps found.result 0)) c.as_slice.ensures.value
    (subst (λ (cs : List ℕ). found.result < length c.as_slice.result.now → 0 < count_without cs place (get_or c.as_slice.result.now found.result 0)) c.as_slice-2.ensures.value found.ensures.counted))
