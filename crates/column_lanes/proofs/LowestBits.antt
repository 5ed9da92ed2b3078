-- Two columns have the same first full depth where their lowest bits are the same.
use Rattle.std.proofs.Common.{◌≡◌, ◌⊎◌, inl, inr, ◌==◌, Bool, true, false, ℕ, ◌^◌, ◌<◌, if◌then◌else◌, refl, ap, sym, ◌∙◌, arith}
use Rattle.std.specs.Int.Bits.{and_zero_l}
use Rattle.std.proofs.lemmas.Bool.{false≢true, both_ways, and_parts, and_from, eqb-true, eqb-false, cases_lt}
use Rattle.std.proofs.lemmas.Nat.{xor_lt}
use Rattle.std.proofs.lemmas.Nat.Bits.{bit_at-lt, bit_at_above, same_from_bits}
use Rattle.solid_model.specs.declared.segment.Style.TheVariants.{Blank, Dashed, Solid}
use Rattle.lemmas.specs.Bits.{is_set, bits, near}
use Rattle.solid_model.proofs.FirstBits.{zero_or_more, same_bit, dashed_from_zeros, solid_from_zeros}
use Rattle.lemmas.proofs.NearBits.{near_to, near_from}
use Rattle.lemmas.proofs.WordBits.{set_both, not_zero, zeros, zeros_of_none, lowest_set, lowest_at_most}
use Rattle.column_lanes.specs.Styles.{IsStyleByte, lowest_bit, style_code}

module _ (n : ℕ) (fits : n < 2 ^ 64) where
  -- the lowest bit stands above as many zeros as there are,
  at_zeros : 0 < n → is_set (lowest_bit n) (zeros n) ≡ true
  at_zeros some =
      let lowest = lowest_set n fits (λ none. omega (arith, none)) in
      set_both n (near n) (zeros n) ∙ and_from _ _ lowest.0 (near_to n (zeros n) fits lowest.1 (omega arith))

  -- and is the only one
  only_zeros : (k : ℕ) → is_set (lowest_bit n) k ≡ true → zeros n ≡ k
  only_zeros k set =
      let parts = and_parts _ _ (sym (set_both n (near n) k) ∙ set) in
      let low = lowest_at_most n fits k parts.0 in
      let high = near_from n k fits (within parts.0) parts.1 in
      omega arith
    where
      within : is_set n k ≡ true → k < 64
      within there = elim (cases_lt k 64) as (λ _. k < 64) [
        | inl l ↦ l
        | inr l ↦ absurd (false≢true (sym (ap (λ b. b == 1) (bit_at_above n 64 k fits l)) ∙ there))
      ]

none_lowest : (n : ℕ) → n ≡ 0 → lowest_bit n ≡ 0
none_lowest n none = ap lowest_bit none ∙ and_zero_l (near 0)

module _ (a b : ℕ) (a_fits : a < 2 ^ 64) (b_fits : b < 2 ^ 64) where
  zeros_from : lowest_bit a ≡ lowest_bit b → zeros a ≡ zeros b
  zeros_from same = by (zero_or_more a) (zero_or_more b)
    where
      by : (a ≡ 0) ⊎ (0 < a) → (b ≡ 0) ⊎ (0 < b) → zeros a ≡ zeros b
      by (inl none) (inl empty) = ap zeros (none ∙ sym empty)
      by (inl none) (inr more) = absurd (not_zero (lowest_bit b) (zeros b) (at_zeros b b_fits more) (sym same ∙ none_lowest a none))
      by (inr some) (inl empty) = absurd (not_zero (lowest_bit a) (zeros a) (at_zeros a a_fits some) (same ∙ none_lowest b empty))
      by (inr some) (inr more) = sym (only_zeros b b_fits (zeros a) (ap (λ n. is_set n (zeros a)) (sym same) ∙ at_zeros a a_fits some))

  -- where one lowest bit is set, the other one is
  same_set : 0 < b → zeros a ≡ zeros b → (k : ℕ) → is_set (lowest_bit a) k ≡ true → is_set (lowest_bit b) k ≡ true
  same_set more same k set = ap (is_set (lowest_bit b)) (sym (only_zeros a a_fits k set) ∙ same) ∙ at_zeros b b_fits more

lowest_from : (a b : ℕ) → a < 2 ^ 64 → b < 2 ^ 64 → zeros a ≡ zeros b → lowest_bit a ≡ lowest_bit b
lowest_from a b l m same = by (zero_or_more a) (zero_or_more b)
  where
    some_zeros : (n : ℕ) → n < 2 ^ 64 → 0 < n → zeros n < 64
    some_zeros n fits some = (lowest_set n fits (λ none. omega (arith, none))).1

    by : (a ≡ 0) ⊎ (0 < a) → (b ≡ 0) ⊎ (0 < b) → lowest_bit a ≡ lowest_bit b
    by (inl none) (inl empty) = ap lowest_bit (none ∙ sym empty)
    by (inl none) (inr more) = absurd (let all = zeros_of_none a none in let few = some_zeros b m more in omega arith)
    by (inr some) (inl empty) = absurd (let all = zeros_of_none b empty in let few = some_zeros a l some in omega arith)
    by (inr some) (inr more) = same_from_bits (lowest_bit a) (lowest_bit b) (λ k. same_bit _ _ (bit_at-lt (lowest_bit a) k) (bit_at-lt (lowest_bit b) k) (equal k))
      where
        equal : (k : ℕ) → is_set (lowest_bit a) k ≡ is_set (lowest_bit b) k
        equal k = on (is_set (lowest_bit a) k) (is_set (lowest_bit b) k) refl refl
          where
            on : (x y : Bool) → is_set (lowest_bit a) k ≡ x → is_set (lowest_bit b) k ≡ y → x ≡ y
            on true true e f = refl
            on false false e f = refl
            on true false e f = absurd (both_ways _ f (same_set a b l m more same k e))
            on false true e f = absurd (both_ways _ e (same_set b a m l some (sym same) k f))

-- the code is the byte of the style that the columns draw
pub code_tells : (after before : ℕ) → after < 2 ^ 64 → before < 2 ^ 64 → IsStyleByte (style_code after before) (bits after) (bits before)
code_tells after before l m = by (after == before) (lowest_bit after == lowest_bit before) refl refl
  where
    by : (same alike : Bool) → (after == before) ≡ same → (lowest_bit after == lowest_bit before) ≡ alike
        → IsStyleByte (if same then 0 else (if alike then 1 else 2)) (bits after) (bits before)
    by true alike e f = (Blank, (λ k. ap (λ n. bits n k) (eqb-true after before e)), refl)
    by false true e f = (Dashed, dashed_from_zeros after before l m (xor_lt 64 after before l m) (eqb-false after before e) (zeros_from after before l m (eqb-true _ _ f)), refl)
    by false false e f = (Solid, solid_from_zeros after before l m (λ same. eqb-false _ _ f (lowest_from after before l m same)), refl)
