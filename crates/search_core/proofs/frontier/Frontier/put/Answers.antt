-- A place isn't counted more often than it was put.
use Rattle.std.proofs.Common.{◌≡◌, ◌<◌, ◌+◌, ℕ, List, length, min, set, sym, subst, ap, arith}
use Rattle.std.proofs.lemmas.List.{get_or_read}
use Rattle.std.specs.Prelude.{vec_capacity}
use Rattle.search_core.specs.Frontier.{count_of, most_puts, IsFrontier, FrontierParts}
use Rattle.search_core.proofs.FrontierPlaces.{counted_at_most, frontier-put}
use Rattle.search_core.proofs.frontier.Frontier.put.Goals as goal

pub overflow_add-index_mut : goal.overflow_add-index_mut
overflow_add-index_mut c =
    let counts = c.self.inside.counts.items in
    let l : c.args.place < length counts = subst (λ (v : FrontierParts). c.args.place < length v.counts) (sym c.self.view_is) c.requires.place in
    let is : c.index_mut.result.now ≡ count_of counts c.args.place = get_or_read counts c.args.place c.index_mut.result.now l c.index_mut.ensures.value 0 in
    let few = counted_at_most c.self.inside.put.items counts c.self.inside.first c.self.invariant c.args.place in
    let capacity : length c.self.inside.put.items < min (vec_capacity c.self.inside.put) most_puts = subst (λ (v : FrontierParts). length v.put < v.capacity) (sym c.self.view_is) c.requires.capacity in
    omega arith

pub invariant_of-self : goal.invariant_of-self
invariant_of-self c =
    let counts = c.self.inside.counts.items in
    let l : c.args.place < length counts = subst (λ (v : FrontierParts). c.args.place < length v.counts) (sym c.self.view_is) c.requires.place in
    let is : c.index_mut.result.now ≡ count_of counts c.args.place = get_or_read counts c.args.place c.index_mut.result.now l c.index_mut.ensures.value 0 in
    subst (λ (put : List ℕ). IsFrontier put (set counts c.args.place (c.index_mut.result.now + 1)) c.self.inside.first) (sym c.push_reserved.ensures.items)
    (frontier-put c.self.inside.put.items counts c.self.inside.first c.self.invariant c.args.place (c.index_mut.result.now + 1) l (ap (λ (k : ℕ). k + 1) is))
