-- A frontier that is kept by counts of places.
use Rattle.std.proofs.Common.{◌≡◌, inl, inr, ℕ, ◌+◌, ◌-◌, ◌<◌, ◌≤◌, ◌==◌, Bool, true, false, cond, List, [], ◌∷◌, ◌++◌, None, map, length, refl, sym, ◌∙◌, ap, ap₂, subst, arith}
use Rattle.std.proofs.lemmas.Bool.{cases_eq, cases_lt, eq-eqb, ne_eqb, le-ltb, false_from_ne_true}
use Rattle.std.proofs.lemmas.List.{get_or_append_left, length-append}
use Rattle.std.specs.Prelude.{if◌then◌else◌}
use Rattle.lemmas.specs.Lists.{Member, Each}
use Rattle.solid_model.specs.Search.{SearchLimits}
use Rattle.lemmas.proofs.ListPlaces.{member-at, member-place}
use Rattle.lemmas.proofs.Lists.{member-append_left, each-at, each-append, each-append_left, each-append_right, each-weaker}
use Rattle.search_core.specs.Ledger.{KeepsFrontier}
use Rattle.lemmas.specs.Truth.{same_values}
use Rattle.search_core.specs.Core.{without, end_at, end_after}
use Rattle.prefix_tree.specs.Places.{prefix_at, StandsAt, AreDistinct}
use Rattle.search_core.specs.Frontier.{count_of}
use Rattle.lemmas.proofs.Truth.{Decides-same_values}
use Rattle.lemmas.specs.Counts.{times_listed, times_among}
use Rattle.search_core.proofs.TakenOut.{stands_between}

-- ---- how often a prefix stands in a list

times_among-append : (p : List Bool) (xs ys : List (List Bool)) → times_among p (xs ++ ys) ≡ times_among p xs + times_among p ys
times_among-append p [] ys = omega arith
times_among-append p (x ∷ xs) ys = omega (arith, times_among-append p xs ys)

-- one that stands there at all is a member
member-times : (p : List Bool) (xs : List (List Bool)) → 0 < times_among p xs → Member xs p
member-times p [] h = absurd (omega arith)
member-times p (x ∷ xs) h = at (same_values p x) refl h (member-times p xs)
  where
    at : (t : Bool) → same_values p x ≡ t → 0 < (if t then 1 else 0) + times_among p xs → (0 < times_among p xs → Member xs p) → Member (x ∷ xs) p
    at true e g later = inl (sym ((Decides-same_values p x).0 e))
    at false e g later = inr (later (omega arith))

-- and the other way round
times-member : (p : List Bool) (xs : List (List Bool)) → Member xs p → 0 < times_among p xs
times-member p [] k = absurd k
times-member p (x ∷ xs) (inl e) = rw ((Decides-same_values p x).1 (sym e)) (omega arith)
times-member p (x ∷ xs) (inr k) = let h = times-member p xs k in omega arith

-- one that is no member stands there never
never-times : (p : List Bool) (xs : List (List Bool)) → (Member xs p → ⊥) → times_among p xs ≡ 0
never-times p xs not_there = elim (cases_lt 0 (times_among p xs)) as (λ _. times_among p xs ≡ 0) [ inl l ↦ absurd (not_there (member-times p xs l)) | inr m ↦ omega arith ]

-- a piece that is taken out stood there once more
times-without : (p q : List Bool) (xs : List (List Bool)) → Member xs p → times_among q xs ≡ times_among q (without p xs) + times_among q (p ∷ [])
times-without p q xs k =
    let s = stands_between p xs k in
    let was : times_among q xs ≡ times_among q s.front + times_among q (p ∷ s.back) = ap (times_among q) s.is ∙ times_among-append q s.front (p ∷ s.back) in
    let is : times_among q (without p xs) ≡ times_among q s.front + times_among q s.back = ap (times_among q) s.left ∙ times_among-append q s.front s.back in
    omega arith

-- what holds of each prefix holds of each that is left
pub each-without : (P : List Bool → Type 0) (p : List Bool) (xs : List (List Bool)) → Member xs p → Each P xs → Each P (without p xs)
each-without P p xs k h =
    let s = stands_between p xs k in
    let all : Each P (s.front ++ p ∷ s.back) = subst (Each P) s.is h in
    subst (Each P) (sym s.left) (each-append P s.front s.back (each-append_left P s.front (p ∷ s.back) all) (each-append_right P s.front (p ∷ s.back) all).1)

-- ---- prefixes by their places

module _ (stored : List (List Bool)) (distinct : AreDistinct stored) where
  -- two prefixes are the same where their places are
  same-places : (j k : ℕ) → j < length stored → k < length stored → same_values (prefix_at stored k) (prefix_at stored j) ≡ (j == k)
  same-places j k lj lk = elim (cases_eq j k) as (λ _. same_values (prefix_at stored k) (prefix_at stored j) ≡ (j == k)) [
    | inl e ↦ (Decides-same_values (prefix_at stored k) (prefix_at stored j)).1 (ap (prefix_at stored) (sym e)) ∙ sym (eq-eqb j k e)
    | inr ne ↦ false_from_ne_true (same_values (prefix_at stored k) (prefix_at stored j)) (λ t. ne (distinct j k lj lk (sym ((Decides-same_values (prefix_at stored k) (prefix_at stored j)).0 t)))) ∙ sym (ne_eqb j k ne)
  ]

  -- so they stand among prefixes as often as their places among places
  times-places : (k : ℕ) (js : List ℕ) → k < length stored → Each (λ j. j < length stored) js → times_among (prefix_at stored k) (map (prefix_at stored) js) ≡ times_listed k js
  times-places k [] l h = refl
  times-places k (j ∷ js) l h = ap₂ (λ (b : Bool) (n : ℕ). (if b then 1 else 0) + n) (same-places j k h.0 l) (times-places k js l h.1)

  -- stored prefixes are members
  each-stored : (js : List ℕ) → Each (λ j. j < length stored) js → Each (Member stored) (map (prefix_at stored) js)
  each-stored [] h = tt
  each-stored (j ∷ js) h = (member-at stored j [] h.0, each-stored js h.1)

  -- a place past them stands among places of stored ones never
  times-past : (k : ℕ) (js : List ℕ) → Each (λ j. j < length stored) js → length stored ≤ k → times_listed k js ≡ 0
  times-past k [] h m = refl
  times-past k (j ∷ js) h m = let l = h.0 in let ne : j ≡ k → ⊥ = (λ e. omega arith) in rw (ne_eqb j k ne) (omega (arith, times-past k js h.1 m))

  -- The frontier after a report is kept where the piece's place is counted once less, and the places of its rest are counted.
  pub frontier-posted : (counts after : List ℕ) (frontier : List (List Bool)) (piece : ℕ) (js : List ℕ) → piece < length stored → 0 < count_of counts piece → Each (λ j. j < length stored) js
      → ((k : ℕ) → count_of after k ≡ (if k == piece then count_of counts k - 1 else count_of counts k) + times_listed k js) → Member frontier (prefix_at stored piece)
      → KeepsFrontier stored counts frontier → KeepsFrontier stored after (without (prefix_at stored piece) frontier ++ map (prefix_at stored) js)
  frontier-posted counts after frontier piece js l there below is member keeps = record {
    kept = each-append (Member stored) (without p frontier) (map (prefix_at stored) js) (each-without (Member stored) p frontier member keeps.kept) (each-stored js below);
    counted = λ k lk.
        let was : count_of counts k ≡ times_among (prefix_at stored k) frontier = keeps.counted k lk in
        let left : times_among (prefix_at stored k) frontier ≡ times_among (prefix_at stored k) (without p frontier) + times_among (prefix_at stored k) (p ∷ [])
        = times-without p (prefix_at stored k) frontier member in
        let own : times_among (prefix_at stored k) (p ∷ []) ≡ times_listed k (piece ∷ []) = times-places k (piece ∷ []) lk (l, tt) in
        let all : times_among (prefix_at stored k) (without p frontier ++ map (prefix_at stored) js) ≡ times_among (prefix_at stored k) (without p frontier) + times_listed k js
        = times_among-append (prefix_at stored k) (without p frontier) (map (prefix_at stored) js) ∙ ap (λ n. times_among (prefix_at stored k) (without p frontier) + n) (times-places k js lk below) in
        let less : (if k == piece then count_of counts k - 1 else count_of counts k) ≡ times_among (prefix_at stored k) (without p frontier) = taken k (count_of counts k) (times_among (prefix_at stored k) (without p frontier)) (was ∙ left ∙ ap (λ n. times_among (prefix_at stored k) (without p frontier) + n) own) in
        omega (arith, is k);
    unstored = λ k m.
        let other : piece ≡ k → ⊥ = (λ e. omega arith) in
        let was : (if k == piece then count_of counts k - 1 else count_of counts k) ≡ 0 = rw (ne_eqb k piece (λ e. other (sym e))) (keeps.unstored k m) in
        omega (arith, is k, times-past k js below m);
  }
    where
      p : List Bool
      p = prefix_at stored piece

      taken : (k n m : ℕ) → n ≡ m + times_listed k (piece ∷ []) → (if k == piece then n - 1 else n) ≡ m
      taken k n m e = elim (cases_eq k piece) as (λ _. (if k == piece then n - 1 else n) ≡ m) [
        | inl same ↦ (let one : times_listed k (piece ∷ []) ≡ 1 + 0 = ap (λ (b : Bool). cond b 1 0 + 0) (eq-eqb piece k (sym same)) in rw (eq-eqb k piece same) (omega arith))
        | inr other ↦ (let none : times_listed k (piece ∷ []) ≡ 0 + 0 = ap (λ (b : Bool). cond b 1 0 + 0) (ne_eqb piece k (λ f. other (sym f))) in rw (ne_eqb k piece other) (omega arith))
      ]

-- a frontier is kept where more prefixes are stored, which aren't counted
pub frontier-grown : (stored more : List (List Bool)) (counts after : List ℕ) (frontier : List (List Bool)) → AreDistinct (stored ++ more)
    → ((k : ℕ) → count_of after k ≡ count_of counts k) → KeepsFrontier stored counts frontier → KeepsFrontier (stored ++ more) after frontier
frontier-grown stored more counts after frontier distinct same keeps = record {
  kept = each-weaker (Member stored) (Member (stored ++ more)) frontier (λ p m. member-append_left stored more p m) keeps.kept;
  counted = λ k l. elim (cases_lt k (length stored)) as (λ _. count_of after k ≡ times_among (prefix_at (stored ++ more) k) frontier) [
    | inl old ↦ same k ∙ keeps.counted k old ∙ ap (λ p. times_among p frontier) (sym (get_or_append_left stored more [] k old))
    | inr new ↦ same k ∙ keeps.unstored k new ∙ sym (never-times (prefix_at (stored ++ more) k) frontier (λ m. stands_before k l new (each-at (Member stored) frontier (prefix_at (stored ++ more) k) keeps.kept m)))
  ];
  unstored = λ k l. same k ∙ keeps.unstored k (omega (arith, length-append stored more));
}
  where
    stands_before : (k : ℕ) → k < length (stored ++ more) → length stored ≤ k → Member stored (prefix_at (stored ++ more) k) → ⊥
    stands_before k l new m =
        let place = member-place stored (prefix_at (stored ++ more) k) m in
        let below : place.0 < length stored = place.1 in
        let is : prefix_at (stored ++ more) place.0 ≡ prefix_at (stored ++ more) k = get_or_append_left stored more [] place.0 place.1 ∙ place.2 [] in
        let e : place.0 ≡ k = distinct place.0 k (omega (arith, length-append stored more)) l is in
        omega arith

module _ (stored : List (List Bool)) (counts : List ℕ) (frontier : List (List Bool)) (keeps : KeepsFrontier stored counts frontier) where
  -- a place that is counted is that of a prefix of the frontier
  pub counted-member : (k : ℕ) → 0 < count_of counts k → Member frontier (prefix_at stored k)
  counted-member k h = elim (cases_lt k (length stored)) as (λ _. Member frontier (prefix_at stored k)) [
    | inl l ↦ member-times (prefix_at stored k) frontier (let e = keeps.counted k l in omega arith)
    | inr m ↦ absurd (let e = keeps.unstored k m in omega arith)
  ]

  -- and is that of a stored one
  pub counted-stored : (k : ℕ) → 0 < count_of counts k → k < length stored
  counted-stored k h = elim (cases_lt k (length stored)) as (λ _. k < length stored) [ inl l ↦ l | inr m ↦ absurd (let e = keeps.unstored k m in omega arith) ]

  -- a prefix of the frontier has a place that is counted
  pub member-counted : (p : List Bool) → Member frontier p → (k : ℕ) × StandsAt stored p k × (0 < count_of counts k)
  member-counted p m =
      let place = member-place stored p (each-at (Member stored) frontier p keeps.kept m) in
      let times = times-member p frontier m in
      let counted : count_of counts place.0 ≡ times_among p frontier = keeps.counted place.0 place.1 ∙ ap (λ q. times_among q frontier) (place.2 []) in
      (place.0, record { below = place.1; there = place.2 [] }, omega arith)

  -- where each place is counted at most as often as it stands among some, so stands each prefix among those of these places
  pub left-among : AreDistinct stored → (js : List ℕ) → Each (λ j. j < length stored) js → ((k : ℕ) → count_of counts k ≤ times_listed k js)
      → (p : List Bool) → times_among p frontier ≤ times_among p (map (prefix_at stored) js)
  left-among distinct js below behind p = elim (cases_lt 0 (times_among p frontier)) as (λ _. times_among p frontier ≤ times_among p (map (prefix_at stored) js)) [
    | inl some ↦ (
        let w = member-counted p (member-times p frontier some) in
        let counted : count_of counts w.0 ≡ times_among (prefix_at stored w.0) frontier = keeps.counted w.0 w.1.below in
        let among : times_among (prefix_at stored w.0) (map (prefix_at stored) js) ≡ times_listed w.0 js = times-places stored distinct w.0 js w.1.below below in
        subst (λ q. times_among q frontier ≤ times_among q (map (prefix_at stored) js)) w.1.there (omega (arith, behind w.0)))
    | inr none ↦ omega arith
  ]

-- where none is counted the frontier is empty
pub none-left : (stored : List (List Bool)) (counts : List ℕ) (frontier : List (List Bool)) → KeepsFrontier stored counts frontier → ((k : ℕ) → count_of counts k ≡ 0) → frontier ≡ []
none-left stored counts [] keeps none = refl
none-left stored counts (p ∷ frontier) keeps none =
    let w = member-counted stored counts (p ∷ frontier) keeps p (inl refl) in
    let h : 0 < count_of counts w.0 = w.2 in
    let e : count_of counts w.0 ≡ 0 = none w.0 in
    absurd (omega arith)

-- within both limits a search goes on, unless the frontier is empty
pub end-within : (limits : SearchLimits) (found opened : ℕ) (frontier : List (List Bool)) → found ≤ limits.solids → opened ≤ limits.nodes → end_after limits found opened frontier ≡ end_at frontier
end-within limits found opened frontier few short = rw (le-ltb limits.solids found few, le-ltb limits.nodes opened short) refl

-- a frontier with a member isn't empty
pub end-open : (frontier : List (List Bool)) (p : List Bool) → Member frontier p → end_at frontier ≡ None
end-open [] p m = absurd m
end-open (q ∷ frontier) p m = refl

-- at the beginning the empty prefix is the frontier, if it is live
pub frontier-begun : (stored : List (List Bool)) (counts : List ℕ) (root : ℕ) (live : Bool) → AreDistinct stored → StandsAt stored [] root
    → ((k : ℕ) → count_of counts k ≡ (if live then times_listed k (root ∷ []) else 0)) → KeepsFrontier stored counts (if live then [] ∷ [] else [])
frontier-begun stored counts root false distinct stands is = record { kept = tt; counted = λ k l. is k; unstored = λ k m. is k }
frontier-begun stored counts root true distinct stands is = record {
  kept = (subst (Member stored) stands.there (member-at stored root [] stands.below), tt);
  counted = λ k l. is k ∙ sym (times-places stored distinct k (root ∷ []) l (stands.below, tt)) ∙ ap (λ (p : List Bool). times_among (prefix_at stored k) (p ∷ [])) stands.there;
  unstored = λ k m. is k ∙ times-past stored distinct k (root ∷ []) (stands.below, tt) m;
}
