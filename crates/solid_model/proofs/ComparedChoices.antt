-- Choices compared: in the stated order exactly one of three ways holds of two choices of as many items.
use Rattle.std.proofs.Common.{◌≡◌, ◌≢◌, ◌↔◌, inl, inr, Bool, true, false, true≢false, not, cond, ℕ, suc, ◌+◌, ◌<◌, List, [], ◌∷◌, length, get_or, Ordering, Less, Equal, Greater, ◌≤◌, refl, sym, ap, subst, ◌∙◌, arith}
use Rattle.std.specs.List.{common_prefix_len}
use Rattle.std.proofs.lemmas.Bool.{both_ways, cases_lt}
use Rattle.std.proofs.lemmas.List.{ext_get_or, get_or-take}
use Rattle.std.proofs.lemmas.List.Sums.{common_prefix_len-le}
use Rattle.lemmas.specs.Truth.{agree}
use Rattle.lemmas.proofs.BitChanges.{shared_taken}
use Rattle.solid_model.specs.Choices.{ChoicePrecedes}
use Rattle.solid_model.proofs.ItemOrder.{differ-precedes}

-- of two choices at most one precedes the other
pub precedes_one_way : (xs ys : List Bool) → ChoicePrecedes xs ys → ChoicePrecedes ys xs → ⊥
precedes_one_way [] ys h k = h
precedes_one_way (x ∷ xs) [] h k = h
precedes_one_way (x ∷ xs) (y ∷ ys) (inl (full, empty)) (inl (other_full, other_empty)) = both_ways x other_empty full
precedes_one_way (x ∷ xs) (y ∷ ys) (inl (full, empty)) (inr (same, rest)) = both_ways y empty (same ∙ full)
precedes_one_way (x ∷ xs) (y ∷ ys) (inr (same, rest)) (inl (full, empty)) = both_ways x empty (same ∙ full)
precedes_one_way (x ∷ xs) (y ∷ ys) (inr (same, rest)) (inr (other_same, other_rest)) = precedes_one_way xs ys rest other_rest

-- none precedes itself
precedes_itself : (xs : List Bool) → ChoicePrecedes xs xs → ⊥
precedes_itself xs h = precedes_one_way xs xs h h

-- so that a choice is another one than that which it precedes
pub precedes_another : (xs ys : List Bool) → ChoicePrecedes xs ys → xs ≢ ys
precedes_another xs ys h e = precedes_itself ys (subst (λ zs. ChoicePrecedes zs ys) e h)

-- the answer says which of the three ways holds
pub record AreCompared (answer : Ordering) (xs ys : List Bool) : Type 0 where
  pub less : (answer ≡ Less) ↔ ChoicePrecedes xs ys
  pub equal : (answer ≡ Equal) ↔ (xs ≡ ys)
  pub greater : (answer ≡ Greater) ↔ ChoicePrecedes ys xs

compared_less : (xs ys : List Bool) → ChoicePrecedes xs ys → AreCompared Less xs ys
compared_less xs ys h = record {
  less = (λ e. h, λ k. refl);
  equal = (λ e. absurd (cc), λ e. absurd (precedes_itself xs (subst (ChoicePrecedes xs) (sym e) h)));
  greater = (λ e. absurd (cc), λ k. absurd (precedes_one_way xs ys h k));
}

compared_greater : (xs ys : List Bool) → ChoicePrecedes ys xs → AreCompared Greater xs ys
compared_greater xs ys h = record {
  less = (λ e. absurd (cc), λ k. absurd (precedes_one_way xs ys k h));
  equal = (λ e. absurd (cc), λ e. absurd (precedes_itself ys (subst (ChoicePrecedes ys) e h)));
  greater = (λ e. h, λ k. refl);
}

compared_equal : (xs ys : List Bool) → xs ≡ ys → AreCompared Equal xs ys
compared_equal xs ys same = record {
  less = (λ e. absurd (cc), λ k. absurd (precedes_itself ys (subst (λ zs. ChoicePrecedes zs ys) same k)));
  equal = (λ e. same, λ e. refl);
  greater = (λ e. absurd (cc), λ k. absurd (precedes_itself ys (subst (ChoicePrecedes ys) same k)));
}

-- ---- what the first place finds at which two differ

-- the first p places are alike
abbrev pub AreAlikeTo : List Bool → List Bool → ℕ → Type 0
AreAlikeTo xs ys p = (k : ℕ) → k < p → get_or xs k false ≡ get_or ys k false

module _ (xs ys : List Bool) (p : ℕ) (long : length xs ≡ length ys) (alike : AreAlikeTo xs ys p) where
  -- the first one is full where they differ
  first_full : p < length xs → get_or xs p false ≡ true → get_or ys p false ≡ false → AreCompared Less xs ys
  first_full l full empty = compared_less xs ys (differ-precedes xs ys p long (record { within = l; full = full; empty = empty; same = alike }))

  -- the second one is
  second_full : p < length xs → get_or xs p false ≡ false → get_or ys p false ≡ true → AreCompared Greater xs ys
  second_full l empty full = compared_greater xs ys (differ-precedes ys xs p (sym long) (record {
    within = omega (arith, long);
    full = full;
    empty = empty;
    same = λ q m. sym (alike q m);
  }))

  -- they differ nowhere
  all_alike : length xs ≤ p → AreCompared Equal xs ys
  all_alike enough = compared_equal xs ys (ext_get_or false xs ys long (λ k l. alike k (omega arith)))

-- of two values that don't agree the second is the other one
other_value : (x y : Bool) → agree x y ≡ false → y ≡ not x
other_value true y e = e
other_value false true e = refl
other_value false false e = absurd (true≢false e)

-- where two lists don't go on alike, their next values don't agree
next_differ : (xs ys : List Bool) → common_prefix_len agree xs ys < length xs → common_prefix_len agree xs ys < length ys
    → agree (get_or xs (common_prefix_len agree xs ys) false) (get_or ys (common_prefix_len agree xs ys) false) ≡ false
next_differ [] ys l m = absurd (omega (arith, l))
next_differ (x ∷ xs) [] l m = absurd (omega (arith, m))
next_differ (x ∷ xs) (y ∷ ys) l m = by (agree x y) refl (next_differ xs ys) l m
  where
    rest : ℕ
    rest = common_prefix_len agree xs ys

    by : (t : Bool) → agree x y ≡ t → (rest < length xs → rest < length ys → agree (get_or xs rest false) (get_or ys rest false) ≡ false)
        → cond t (1 + rest) 0 < suc (length xs) → cond t (1 + rest) 0 < suc (length ys)
        → agree (get_or (x ∷ xs) (cond t (1 + rest) 0) false) (get_or (y ∷ ys) (cond t (1 + rest) 0) false) ≡ false
    by false e go l m = e
    by true e go l m =
        let next : suc rest ≡ 1 + rest = omega arith in
        subst (λ n. agree (get_or (x ∷ xs) n false) (get_or (y ∷ ys) n false) ≡ false) next (go (omega (arith, l)) (omega (arith, m)))

module _ (xs ys : List Bool) (long : length xs ≡ length ys) (p : ℕ) (is : p ≡ common_prefix_len agree xs ys) where
  shared_alike : AreAlikeTo xs ys p
  shared_alike k l =
      sym (get_or-take p xs k false l)
      ∙ ap (λ zs. get_or zs k false) (shared_taken xs ys p (let e = is in omega (arith, e)))
      ∙ get_or-take p ys k false l

  shared_other : p < length xs → get_or ys p false ≡ not (get_or xs p false)
  shared_other l = other_value _ _ (subst (λ n. agree (get_or xs n false) (get_or ys n false) ≡ false) (sym is)
      (next_differ xs ys (let e = is in omega (arith, e, l)) (let e = is in omega (arith, e, l, long))))

  -- all of one is the beginning of the other,
  pub one_choice : p ≡ length xs → AreCompared Equal xs ys
  one_choice e = all_alike xs ys p long shared_alike (omega (arith, e))

  -- or the first value at which they differ decides
  pub within : (p ≡ length xs → ⊥) → p < length xs
  within differ = elim (cases_lt p (length xs)) as (λ _. p < length xs) [
    | inl l ↦ l
    | inr l ↦ absurd (differ (let most = (common_prefix_len-le agree xs ys).0 in let e = is in omega (arith, e, l, most)))
  ]

  pub full_first : (p ≡ length xs → ⊥) → get_or xs p false ≡ true → AreCompared Less xs ys
  full_first differ full = first_full xs ys p long shared_alike (within differ) full (shared_other (within differ) ∙ ap not full)

  pub empty_first : (p ≡ length xs → ⊥) → get_or xs p false ≡ false → AreCompared Greater xs ys
  empty_first differ empty = second_full xs ys p long shared_alike (within differ) empty (shared_other (within differ) ∙ ap not empty)
