-- What a sort of choices gives: different choices of one length ascend in the stated order.
use Rattle.std.proofs.Common.{◌≡◌, ◌≢◌, ◌↔◌, inl, inr, Bool, true, false, true≢false, ℕ, suc, ◌≤◌, ◌<◌, List, [], ◌∷◌, length, get_or, Ordering, Less, Equal, Greater, IsPermutation, refl, sym, ◌∙◌, ap, subst, arith}
use Rattle.std.specs.Cmp.{IsStrictWeakOrder, bool_cmp_total}
use Rattle.std.specs.Ordering.{is_lt, nat_cmp, ordering_then, MatchOrdering}
use Rattle.std.specs.List.Sorted.{IsSortedBy}
use Rattle.std.proofs.lemmas.Cmp.{nat_cmp_total, lists_total, back_total, on_total, then_total, tied_itself}
use Rattle.std.proofs.lemmas.List.Sorted.{ranks_by, sorted_far, IsPermutation-sym}
use Rattle.solid_model.specs.Choices.{ChoicePrecedes}
use Rattle.lemmas.specs.Lists.{Each, Ascends}
use Rattle.lemmas.proofs.Lists.{each-at, each-from}
use Rattle.lemmas.proofs.Permutations.{member-permutation, once-permutation}
use Rattle.lemmas.proofs.Truth.{Decides-same_values}
use Rattle.lemmas.specs.Truth.{same_values}
use Rattle.solid_model.specs.Sorting.{stated_order, order_of}

-- ---- the order

pub order_total : IsStrictWeakOrder (λ x y. is_lt (order_of x y))
order_total = ranks_by (then_total (on_total length nat_cmp_total) (lists_total (back_total bool_cmp_total))) (λ x. x)

-- what the stated order says of equally long ones
abbrev IsStated : Ordering → List Bool → List Bool → Type 0
IsStated o xs ys = MatchOrdering o (ChoicePrecedes xs ys) (xs ≡ ys) (ChoicePrecedes ys xs)

one_more : (x : Bool) (o : Ordering) (xs ys : List Bool) → IsStated o xs ys → IsStated o (x ∷ xs) (x ∷ ys)
one_more x Less xs ys h = inr (refl, h)
one_more x Equal xs ys h = ap (λ l. x ∷ l) h
one_more x Greater xs ys h = inr (refl, h)

stated : (xs ys : List Bool) → length xs ≡ length ys → IsStated (stated_order xs ys) xs ys
stated [] [] e = refl
stated [] (y ∷ ys) e = absurd (omega (arith, e))
stated (x ∷ xs) [] e = absurd (omega (arith, e))
stated (true ∷ xs) (true ∷ ys) e = one_more true (stated_order xs ys) xs ys (stated xs ys (omega (arith, e)))
stated (true ∷ xs) (false ∷ ys) e = inl (refl, refl)
stated (false ∷ xs) (true ∷ ys) e = inl (refl, refl)
stated (false ∷ xs) (false ∷ ys) e = one_more false (stated_order xs ys) xs ys (stated xs ys (omega (arith, e)))

-- equally long ones come in the stated order
equally_long : (xs ys : List Bool) → length xs ≡ length ys → order_of xs ys ≡ stated_order xs ys
equally_long xs ys e =
    let same : nat_cmp (length xs) (length ys) ≡ Equal = subst (λ m. nat_cmp (length xs) m ≡ Equal) e (tied_itself nat_cmp_total (length xs)) in
    ap (λ o. ordering_then o (stated_order xs ys)) same

-- ---- a comparison

-- which of equally long ones comes first
pub compared : (xs ys : List Bool) (answer : Ordering) → length xs ≡ length ys → (answer ≡ Less) ↔ ChoicePrecedes xs ys → (answer ≡ Equal) ↔ (xs ≡ ys)
    → (answer ≡ Greater) ↔ ChoicePrecedes ys xs → answer ≡ order_of xs ys
compared xs ys answer e less equal greater = at (stated_order xs ys) (stated xs ys e) ∙ sym (equally_long xs ys e)
  where
    at : (o : Ordering) → IsStated o xs ys → answer ≡ o
    at Less h = less.1 h
    at Equal h = equal.1 h
    at Greater h = greater.1 h

-- ---- a sorted list

-- of two different ones that are equally long the first comes earlier, if the second doesn't
earlier : (xs ys : List Bool) → length xs ≡ length ys → xs ≢ ys → is_lt (order_of ys xs) ≡ false → ChoicePrecedes xs ys
earlier xs ys e differ later = at (stated_order ys xs) (stated ys xs (sym e)) (ap is_lt (sym (equally_long ys xs (sym e))) ∙ later)
  where
    at : (o : Ordering) → IsStated o ys xs → is_lt o ≡ false → ChoicePrecedes xs ys
    at Less h l = absurd (true≢false l)
    at Equal h l = absurd (differ (sym h))
    at Greater h l = h

module _ (n : ℕ) where
  -- one that none comes before precedes all others
  first_precedes : (x : List Bool) (xs : List (List Bool)) → length x ≡ n → Each (λ y. length y ≡ n) xs → Each (λ y. x ≢ y) xs
      → ((j : ℕ) (d : List Bool) → j < length xs → is_lt (order_of (get_or xs j d) x) ≡ false) → Each (ChoicePrecedes x) xs
  first_precedes x [] long each once up = tt
  first_precedes x (y ∷ ys) long each once up =
      (earlier x y (long ∙ sym each.0) once.0 (up 0 [] (omega arith)), first_precedes x ys long each.1 once.1 (λ j d m. up (suc j) d (omega arith)))

  ascending : (xs : List (List Bool)) → Each (λ y. length y ≡ n) xs → Ascends ◌≢◌ xs
      → ((i j : ℕ) (d : List Bool) → i ≤ j → j < length xs → is_lt (order_of (get_or xs j d) (get_or xs i d)) ≡ false) → Ascends ChoicePrecedes xs
  ascending [] each once up = tt
  ascending (x ∷ xs) each once up = (
    first_precedes x xs each.0 each.1 once.0 (λ j d m. up 0 (suc j) d (omega arith) (omega arith)),
    ascending xs each.1 once.1 (λ i j d l m. up (suc i) (suc j) d (omega arith) (omega arith)),
  )

-- different choices of one length, sorted
pub sorted_choices : (xs ys : List (List Bool)) → (n : ℕ) × Each (λ x. length x ≡ n) xs → Ascends ◌≢◌ xs → IsPermutation xs ys
    → IsSortedBy (λ x y. is_lt (order_of x y)) ys → Ascends ChoicePrecedes ys
sorted_choices xs ys (n, each) once moved sorted =
    ascending n ys (each-from (λ y. length y ≡ n) ys (λ y k. each-at (λ x. length x ≡ n) xs y each (member-permutation ys xs y (IsPermutation-sym xs ys moved) k)))
    (once-permutation same_values Decides-same_values xs ys moved once)
    (λ i j d. sorted_far (λ x y. is_lt (order_of x y)) order_total ys sorted i j d)
