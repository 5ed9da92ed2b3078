-- Rows of which a choice fills something, by their places.
use Rattle.std.proofs.Common.{◌≡◌, Bool, true, false, ◌&&◌, ◌||◌, ◌==◌, ℕ, ◌+◌, ◌<◌, List, [], ◌∷◌, ◌++◌, length, slice_index_or, get_or, set, map, inl, inr, replicate, refl, ap, sym, subst, ◌∙◌, arith}
use Rattle.std.proofs.Math.Bool.{or-false, or-true}
use Rattle.std.proofs.Math.ListN.{get_or-eq_default, get_or-map}
use Rattle.std.proofs.lemmas.Bool.{cases_lt, cases_eq, eq-eqb, ne_eqb, eqb-false, or_parts}
use Rattle.std.proofs.lemmas.List.{length-map, length-replicate, length-set, get_or_default, get_or-replicate, get_or-set_same, get_or-set_other}
use Rattle.std.proofs.lemmas.Nat.Bits.{bit_at-zero}
use Rattle.std.proofs.lemmas.List.Folds.{list_any-append}
use Rattle.lemmas.specs.Bits.{is_set}
use Rattle.lemmas.specs.Lists.{Each}
use Rattle.lemmas.proofs.Lists.{each-weaker, each-push}
use Rattle.cell_rows.specs.declared.span.Span.{Span}
use Rattle.cell_rows.specs.Spans.{is_filled, is_among, AreFillable, AreFilled}

-- the row that is read at a place
pub row_read : {A : Type 0} (spans_of : A → List Span) (rows : List A) (place : ℕ) (row : A) → row ≡ get_or rows place row → place < length rows
    → get_or (map spans_of rows) place [] ≡ spans_of row
row_read spans_of rows place row is there =
    get_or_default (map spans_of rows) place [] (spans_of row) (omega (arith, there, length-map rows spans_of))
    ∙ get_or-map spans_of rows place row ∙ ap spans_of (sym is)

-- a place is among others and one more
pub among_last : (places : List ℕ) (q p : ℕ) → is_among (places ++ q ∷ []) p ≡ (is_among places p || (q == p))
among_last places q p = list_any-append (λ x. x == p) places (q ∷ []) ∙ ap (λ b. is_among places p || b) (or-false (q == p))

-- beyond these places no choice fills anything of the first rows, so many
pub record AreFillableSoFar (rows : List (List Span)) (places : List ℕ) (count : ℕ) : Type 0 where
  pub inside : Each (λ p. p < count) places
  pub beyond : (p : ℕ) → p < count → is_among places p ≡ false
      → (choice : List Bool) (k : ℕ) → is_filled choice (slice_index_or rows p []) k ≡ false

-- rows hold what a choice fills of their spans at these places, and nothing elsewhere
pub record AreFilledAt (choice : List Bool) (spans : List (List Span)) (places : List ℕ) (rows : List ℕ) : Type 0 where
  pub count : length rows ≡ length spans
  pub each : (p k : ℕ) → is_set (slice_index_or rows p 0) k ≡ (is_among places p && is_filled choice (slice_index_or spans p []) k)

-- ---- which rows

-- a row of which nothing is filled is left out
pub fillable_without : (rows : List (List Span)) (places : List ℕ) (count : ℕ) → AreFillableSoFar rows places count
    → ((choice : List Bool) (k : ℕ) → is_filled choice (get_or rows count []) k ≡ false) → AreFillableSoFar rows places (count + 1)
fillable_without rows places count so_far none = record {
  inside = each-weaker (λ p. p < count) (λ p. p < count + 1) places (λ p l. omega (arith, l)) so_far.inside;
  beyond = λ p l out choice k. elim (cases_lt p count) as (λ _. is_filled choice (get_or rows p []) k ≡ false) [
    | inl earlier ↦ so_far.beyond p earlier out choice k
    | inr later ↦ (let at : count ≡ p = omega arith in
        subst (λ q. is_filled choice (get_or rows q []) k ≡ false) at (none choice k))
  ];
}

-- any other is put at the end
pub fillable_with : (rows : List (List Span)) (places : List ℕ) (count : ℕ) → AreFillableSoFar rows places count
    → AreFillableSoFar rows (places ++ count ∷ []) (count + 1)
fillable_with rows places count so_far = record {
  inside = each-push (λ p. p < count + 1) places count
      (each-weaker (λ p. p < count) (λ p. p < count + 1) places (λ p l. omega (arith, l)) so_far.inside) (omega arith);
  beyond = λ p l out.
      let parts = or_parts (is_among places p) (count == p) (sym (among_last places count p) ∙ out) in
      let apart = eqb-false count p parts.1 in
      so_far.beyond p (omega arith) parts.0;
}

-- those of all rows
pub fillable_all : (rows : List (List Span)) (places : List ℕ) (count : ℕ) → count ≡ length rows → AreFillableSoFar rows places count
    → AreFillable rows places
fillable_all rows places count all so_far = record {
  inside = each-weaker (λ p. p < count) (λ p. p < length rows) places (λ p l. omega (arith, l)) so_far.inside;
  beyond = λ p l out choice k. so_far.beyond p (omega arith) out choice k;
}

-- ---- what is filled

-- first nothing is
pub filled_none : (choice : List Bool) (spans : List (List Span)) (count : ℕ) → count ≡ length spans
    → AreFilledAt choice spans [] (replicate {A = ℕ} count 0)
filled_none choice spans count same = record {
  count = length-replicate {A = ℕ} count 0 ∙ same;
  each = λ p k. ap (λ w. is_set w k) (zero p) ∙ ap (λ b. b == 1) (bit_at-zero k);
}
  where
    zero : (p : ℕ) → get_or (replicate {A = ℕ} count 0) p 0 ≡ 0
    zero p = elim (cases_lt p count) as (λ _. get_or (replicate {A = ℕ} count 0) p 0 ≡ 0) [
      | inl inside ↦ get_or-replicate count p 0 0 inside
      | inr beyond ↦ get_or-eq_default (replicate count 0) 0 (omega (arith, length-replicate {A = ℕ} count 0))
    ]

-- then the row at one place more
pub filled_more : (choice : List Bool) (spans : List (List Span)) (places rows : List ℕ) (q word : ℕ) → AreFilledAt choice spans places rows
    → q < length rows → ((k : ℕ) → is_set word k ≡ is_filled choice (get_or spans q []) k)
    → AreFilledAt choice spans (places ++ q ∷ []) (set rows q word)
filled_more choice spans places rows q word so_far there filled = record {
  count = length-set rows q word ∙ so_far.count;
  each = λ p k. elim (cases_eq p q) as (λ _. is_set (get_or (set rows q word) p 0) k
      ≡ (is_among (places ++ q ∷ []) p && is_filled choice (get_or spans p []) k)) [
        | inl same ↦ subst (λ p. is_set (get_or (set rows q word) p 0) k ≡ (is_among (places ++ q ∷ []) p && is_filled choice (get_or spans p []) k)) (sym same)
            (ap (λ w. is_set w k) (get_or-set_same rows q word 0 there) ∙ filled k
            ∙ sym (ap (λ b. b && is_filled choice (get_or spans q []) k) (among_last places q q ∙ ap (λ b. is_among places q || b) (eq-eqb q q refl) ∙ or-true (is_among places q))))
        | inr apart ↦ ap (λ w. is_set w k) (get_or-set_other rows q p word 0 apart) ∙ so_far.each p k
            ∙ sym (ap (λ b. b && is_filled choice (get_or spans p []) k) (among_last places q p ∙ ap (λ b. is_among places p || b) (ne_eqb q p (λ e. apart (sym e))) ∙ or-false (is_among places p)))
      ];
}

-- at last each row is, since nothing is filled of the others
pub filled_all : (choice : List Bool) (spans : List (List Span)) (places rows : List ℕ) → AreFilledAt choice spans places rows
    → AreFillable spans places → AreFilled choice spans rows
filled_all choice spans places rows filled fillable p k l = filled.each p k
    ∙ by (is_among places p) (λ out. fillable.beyond p l out choice k)
  where
    by : (b : Bool) {f : Bool} → (b ≡ false → f ≡ false) → (b && f) ≡ f
    by true none = refl
    by false none = sym (none refl)
