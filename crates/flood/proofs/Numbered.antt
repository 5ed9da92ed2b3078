-- Components that are numbered one after another.
use Rattle.std.proofs.Common.{◌≡◌, ◌⊎◌, inl, inr, ◌↔◌, ℕ, ◌+◌, ◌<◌, ◌≤◌, Bool, true, false, IsTrue, List, [], length, replicate, refl, sym, ap, subst, ◌∙◌, arith}
use Rattle.std.proofs.lemmas.Bool.{cases_lt, both_ways}
use Rattle.std.proofs.lemmas.List.{get_or_default, get_or-replicate, length-replicate}
use Rattle.lemmas.specs.Chains.{Reaches}
use Rattle.lemmas.proofs.Chains.{reaches-onward, reaches-keeps, reaches-back_within}
use Rattle.flood.specs.Graph.{GoesBack, component, AreComponents, AreComponentsOf}
use Rattle.flood.specs.NodeMarks.{no_mark, mark_of, IsMarked, Floods, Numbers}
use Rattle.flood.proofs.Spreading.{marked_within, still_marked}
use Rattle.flood.proofs.Flooding.{floods_closed, floods_there}

-- what holds of each earlier node, and of this one, holds up to here
up_to : (P : ℕ → Type 0) (n : ℕ) → ((a : ℕ) → a < n → P a) → P n → (a : ℕ) → a < n + 1 → P a
up_to P n earlier here a l = elim (cases_lt a n) as (λ _. P a) [
  | inl before ↦ earlier a before
  | inr after ↦ (let same : n ≡ a = omega arith in subst P same here)
]

module _ (step : ℕ → ℕ → Type 0) (size : ℕ) (asked : ℕ → Bool) where
  -- before the first node none has a mark
  pub numbers_begin : (marks : List ℕ) → length marks ≡ size → ((a : ℕ) → IsMarked marks a → ⊥) → Numbers step size asked marks 0 0
  numbers_begin marks long none = record {
    listed = long;
    few = omega arith;
    all = λ a l. absurd (omega arith);
    closed = λ a b m s. absurd (none a m);
    below = λ a m. absurd (none a m);
    joined = λ a b m k. absurd (none a m);
    first = λ k l. absurd (omega arith);
  }

  -- where no node has a mark
  pub numbers_unmarked : (marks : List ℕ) → marks ≡ replicate size no_mark → Numbers step size asked marks 0 0
  numbers_unmarked marks e = numbers_begin marks (ap length e ∙ length-replicate size no_mark) (λ a m.
      let within = subst (λ n. a < n) (ap length e ∙ length-replicate size no_mark) (marked_within marks a m) in
      let none : mark_of marks a ≡ no_mark = ap (λ ms. mark_of ms a) e ∙ get_or-replicate size a no_mark no_mark within in
      omega (arith, m, none))

  -- a node that has a mark
  pub numbers_skip : (marks : List ℕ) (node count : ℕ) → Numbers step size asked marks node count → IsMarked marks node
      → Numbers step size asked marks (node + 1) count
  numbers_skip marks node count h m = record {
    listed = h.listed;
    few = let few = h.few in omega arith;
    all = up_to (λ a. IsTrue (asked a) → IsMarked marks a) node h.all (λ _. m);
    closed = h.closed;
    below = h.below;
    joined = h.joined;
    first = λ k l. let (a, earlier, its, rest) = h.first k l in (a, omega arith, its, rest);
  }

  module _ (marks more : List ℕ) (node count : ℕ) (h : Numbers step size asked marks node count) (small : count < no_mark) (back : GoesBack size step)
      (none : mark_of marks node ≡ no_mark) (flooded : Floods step node count marks more []) where
    long : length more ≡ size
    long = flooded.size ∙ h.listed

    within : (a : ℕ) → IsMarked more a → a < size
    within a m = subst (λ n. a < n) long (marked_within more a m)

    closed : (a b : ℕ) → IsMarked more a → step a b → IsMarked more b
    closed a b m s = floods_closed step node count small marks more flooded a b m s

    there : (b : ℕ) → Reaches step node b → IsMarked more b
    there b chain = floods_there step node count small marks more flooded b chain

    turned : (a b : ℕ) → IsMarked more a → Reaches step a b → Reaches step b a
    turned a b m chain = reaches-back_within step (IsMarked more) closed (λ x y at_x at_y s. back x y (within x at_x) (within y at_y) s) a b m chain

    -- the earlier nodes keep their numbers
    earlier : (a : ℕ) → IsMarked marks a → mark_of more a < count
    earlier a m = subst (λ n. n < count) (sym (flooded.kept a m)) (h.below a m)

    abbrev Fresh : ℕ → Type 0
    Fresh a = IsMarked marks a ⊎ ((mark_of more a ≡ count) × Reaches step node a)

    -- no chain leads from an earlier node to one that was marked now
    apart : (a b : ℕ) → IsMarked marks a → mark_of more b ≡ count → Reaches step a b → ⊥
    apart a b m now chain = let old = earlier b (reaches-keeps step (IsMarked marks) h.closed a b m chain) in absurd (omega arith)

    joined : (a b : ℕ) → IsMarked more a → IsMarked more b → Fresh a → Fresh b → (mark_of more a ≡ mark_of more b) ↔ Reaches step a b
    joined a b at_a at_b (inl old) (inl other) =
        let was = h.joined a b old other in
        let same = flooded.kept a old in
        let also = flooded.kept b other in
        (λ e. was.0 (sym same ∙ e ∙ also), λ chain. same ∙ was.1 chain ∙ sym also)
    joined a b at_a at_b (inl old) (inr (now, chain)) =
        let less = earlier a old in
        (λ e. absurd (omega (arith, e, now, less)), λ other. absurd (apart a b old now other))
    joined a b at_a at_b (inr (now, chain)) (inl old) =
        let less = earlier b old in
        (λ e. absurd (omega (arith, e, now, less)), λ other. absurd (apart b a old now (turned a b at_a other)))
    joined a b at_a at_b (inr (now, chain)) (inr (also, onward)) =
        (λ e. reaches-onward step a node b (turned node a (there node (0, refl)) chain) onward, λ other. now ∙ sym also)

    -- a node that has none, from which all that chains lead to was marked
    pub numbers_more : Numbers step size asked more (node + 1) (count + 1)
    numbers_more = record {
      listed = long;
      few = let few = h.few in omega arith;
      all = up_to (λ a. IsTrue (asked a) → IsMarked more a) node
          (λ a l is. let old = h.all a l is in still_marked marks more a (flooded.kept a old) old) (λ _. there node (0, refl));
      closed = closed;
      below = λ a m. below a (flooded.fresh a m);
      joined = λ a b at_a at_b. joined a b at_a at_b (flooded.fresh a at_a) (flooded.fresh b at_b);
      first = λ k l. elim (cases_lt k count) as (λ _. First k) [ inl old ↦ kept k old | inr last ↦ newest k (omega arith) ];
    }
      where
        at_mark : (a k : ℕ) → mark_of marks a ≡ k → k < count → IsMarked marks a
        at_mark a k its l = omega arith

        below : (a : ℕ) → Fresh a → mark_of more a < count + 1
        below a (inl old) = let less = earlier a old in omega arith
        below a (inr (now, chain)) = omega arith

        First : ℕ → Type 0
        First k = (a : ℕ) × (a < node + 1) × (mark_of more a ≡ k) × ((b : ℕ) → b < a → IsTrue (asked b) → mark_of more b < k)

        kept : (k : ℕ) → k < count → First k
        kept k l =
            let (a, before, its, rest) = h.first k l in
            let marked = at_mark a k its l in
            (a, omega arith, flooded.kept a marked ∙ its, λ b m is. subst (λ n. n < k) (sym (flooded.kept b (h.all b (omega arith) is))) (rest b m is))

        newest : (k : ℕ) → count ≡ k → First k
        newest k e = (node, omega arith, flooded.seeded ∙ e, λ b l is. subst (λ n. mark_of more b < n) e (earlier b (h.all b l is)))

  -- nodes that aren't asked for are passed over
  pub numbers_onward : (marks : List ℕ) (node next count : ℕ) → Numbers step size asked marks node count → node ≤ next
      → ((a : ℕ) → node ≤ a → a < next → asked a ≡ false) → Numbers step size asked marks next count
  numbers_onward marks node next count h later none = record {
    listed = h.listed;
    few = let few = h.few in omega arith;
    all = λ a l is. elim (cases_lt a node) as (λ _. IsMarked marks a) [
      | inl before ↦ h.all a before is
      | inr after ↦ absurd (both_ways (asked a) (none a after l) is)
    ];
    closed = h.closed;
    below = h.below;
    joined = h.joined;
    first = λ k l. let (a, earlier, its, rest) = h.first k l in (a, omega arith, its, rest);
  }

  -- when all that are asked for are numbered
  pub numbers_asked : (marks : List ℕ) (count : ℕ) → Numbers step size asked marks size count → AreComponentsOf step size asked marks count
  numbers_asked marks count h = record {
    listed = h.listed;
    joined = λ a b a_is b_is l m.
        let was = h.joined a b (h.all a l a_is) (h.all b m b_is) in
        (λ e. was.0 (sym (same a l) ∙ e ∙ same b m), λ chain. same a l ∙ was.1 chain ∙ sym (same b m));
    below = λ a is l. subst (λ n. n < count) (sym (same a l)) (h.below a (h.all a l is));
  }
    where
      same : (a : ℕ) → a < size → component marks a ≡ mark_of marks a
      same a l = get_or_default marks a 0 no_mark (subst (λ n. a < n) (sym h.listed) l)

-- when all nodes are numbered
pub numbers_all : (step : ℕ → ℕ → Type 0) (size : ℕ) (marks : List ℕ) (count : ℕ) → Numbers step size (λ _. true) marks size count
    → AreComponents step size marks count
numbers_all step size marks count h = record {
  listed = h.listed;
  joined = λ a b l m.
      let was = h.joined a b (h.all a l refl) (h.all b m refl) in
      (λ e. was.0 (sym (same a l) ∙ e ∙ same b m), λ chain. same a l ∙ was.1 chain ∙ sym (same b m));
  below = λ a l. subst (λ n. n < count) (sym (same a l)) (h.below a (h.all a l refl));
  first = λ k l.
      let (a, within, its, rest) = h.first k l in
      (a, within, same a within ∙ its, λ b m. subst (λ n. n < k) (sym (same b (omega arith))) (rest b m refl));
}
  where
    same : (a : ℕ) → a < size → component marks a ≡ mark_of marks a
    same a l = get_or_default marks a 0 no_mark (subst (λ n. a < n) (sym h.listed) l)
