-- What is left of a column, bit by bit.
use Rattle.std.proofs.Common.{◌≡◌, ◌≢◌, ◌↔◌, inl, inr, Bool, true, false, not, ◌&&◌, ◌||◌, ◌==◌, ℕ, ◌+◌, ◌-◌, ◌%◌, ◌≤◌, ◌<◌, ◌^◌, ℤ, pos, negsuc, ◌<ℤ◌, List, map, length, slice_index_or, Option, Some, None, bit_and, bit_or, w64, refl, ap, sym, subst, ◌∙◌, arith}
use Rattle.std.specs.Prelude.{IfSome}
use Rattle.std.specs.Int.{bit_not}
use Rattle.std.proofs.lemmas.Bool.{both_ways, and_parts, and_from, or_left, or_right, cases_lt, not-true, false≢true, false_from_ne_true}
use Rattle.std.proofs.lemmas.Int.{ints}
use Rattle.std.proofs.lemmas.List.{length-map, get_or-map}
use Rattle.std.proofs.lemmas.Nat.{and_le_r, xor_lt}
use Rattle.std.proofs.lemmas.Nat.Bits.{bit_at_above}
use Rattle.lemmas.specs.Bits.{is_set, bits, near}
use Rattle.lemmas.proofs.NearBits.{near_to, near_from}
use Rattle.lemmas.proofs.WordBits.{set_both, set_either, set_without, zeros, zeros_of_none, lowest_set, lowest_at_most, not_zero}
use Rattle.lemmas.proofs.Tests.{same_tests}
use Rattle.solid_model.specs.Columns.{IsFirstFull, HaveSameFirstFull, ColumnsDraw}
use Rattle.solid_model.specs.declared.segment.Style.TheVariants.{Blank, Solid}
use Rattle.solid_model.proofs.FirstBits.{solid_from_zeros}
use Rattle.fit_lanes.specs.Cuts.{AreLeftOf, HasOnlyKept, IsLeftBit, IsLeftOf}

-- a bit that is set stands within a word
bit_within : (n k : ℕ) → n < 2 ^ 64 → is_set n k ≡ true → k < 64
bit_within n k fits set = elim (cases_lt k 64) as (λ _. k < 64) [
  | inl l ↦ l
  | inr beyond ↦ absurd (both_ways (is_set n k) (ap (λ x. x == 1) (bit_at_above n 64 k fits beyond)) set)
]

-- the full cells of a column at depths that are kept, and the depths behind the first of them
abbrev left_word : ℕ → ℕ → ℕ
left_word kept column = bit_or (bit_and column kept) (bit_and kept (bit_not w64 (near (bit_and column kept))))

module _ (kept column : ℕ) (kept_fits : kept < 2 ^ 64) where
  abbrev rest : ℕ
  rest = bit_and column kept

  rest_fits : rest < 2 ^ 64
  rest_fits = let less = and_le_r column kept in omega (arith, less, kept_fits)

  near_rest_fits : near rest < 2 ^ 64
  near_rest_fits = xor_lt 64 rest ((rest + (2 ^ 64 - 1)) % 2 ^ 64) rest_fits (omega arith)

  abbrev left : ℕ
  left = left_word kept column

  module _ (k : ℕ) where
    whole : is_set left k ≡ (is_set rest k || (is_set kept k && not (is_set (near rest) k)))
    whole = set_either rest (bit_and kept (bit_not w64 (near rest))) k
        ∙ ap (λ b. is_set rest k || b) (set_without kept (near rest) k kept_fits near_rest_fits)

    to_left : is_set left k ≡ true → IsLeftBit kept column k
    to_left e = by (is_set rest k) refl (sym whole ∙ e)
      where
        by : (b : Bool) → is_set rest k ≡ b → (is_set rest k || (is_set kept k && not (is_set (near rest) k))) ≡ true → IsLeftBit kept column k
        by true is own = let p = and_parts (is_set column k) (is_set kept k) (sym (set_both column kept k) ∙ is) in (p.1, (k, omega arith, p.1, p.0))
        by false is some =
            let p = and_parts (is_set kept k) (not (is_set (near rest) k)) (subst (λ t. (t || (is_set kept k && not (is_set (near rest) k))) ≡ true) is some) in
            let within = bit_within kept k kept_fits p.0 in
            let behind : zeros rest < k = elim (cases_lt (zeros rest) k) as (λ _. zeros rest < k) [
              | inl l ↦ l
              | inr l ↦ absurd (both_ways (is_set (near rest) k) (not-true _ p.1) (near_to rest k rest_fits within l))
            ] in
            let lowest = lowest_set rest rest_fits (λ none. (let all = zeros_of_none rest none in omega (arith, all, behind, within))) in
            let q = and_parts (is_set column (zeros rest)) (is_set kept (zeros rest)) (sym (set_both column kept (zeros rest)) ∙ lowest.0) in
            (p.0, (zeros rest, omega (arith, behind), q.1, q.0))

    from_left : IsLeftBit kept column k → is_set left k ≡ true
    from_left (here, (m, l, kept_there, column_there)) = whole ∙ by (is_set (near rest) k) refl
      where
        there : is_set rest m ≡ true
        there = set_both column kept m ∙ and_from (is_set column m) (is_set kept m) column_there kept_there

        by : (b : Bool) → is_set (near rest) k ≡ b → (is_set rest k || (is_set kept k && not (is_set (near rest) k))) ≡ true
        by false is = or_right (is_set rest k) _ (and_from (is_set kept k) _ here (ap not is))
        by true is =
            let low = lowest_at_most rest rest_fits m there in
            let high = near_from rest k rest_fits (bit_within kept k kept_fits here) is in
            or_left (is_set rest k) _ (subst (λ n. is_set rest n ≡ true) (let same : m ≡ k = omega (arith, low, high, l) in same) there)

    left_bit : (is_set left k ≡ true) ↔ IsLeftBit kept column k
    left_bit = (to_left, from_left)

-- each column has one that is left of it
pub some_left : (kept : Option ℕ) → IfSome kept (λ depths. depths < 2 ^ 64) → (columns : List ℕ)
    → (left : List ℕ) × AreLeftOf kept columns left × (length left ≡ length columns)
some_left None fits columns = (columns, (λ p l. refl), refl)
some_left (Some depths) fits columns = (
  map (left_word depths) columns,
  (λ p l k. subst (λ (w : ℕ). (is_set w k ≡ true) ↔ IsLeftBit depths (slice_index_or columns p 0) k) (sym (get_or-map (left_word depths) columns p 0 0 l))
      (left_bit depths (slice_index_or columns p 0) fits k)),
  length-map columns (left_word depths),
)

-- ---- the styles between columns that are left

-- a column within the depths that are kept, and what is left of it, have the same first full depth
module _ (kept column left : ℕ) (of : IsLeftOf (Some kept) column left) (within : HasOnlyKept (Some kept) column) where
  own : (k : ℕ) → is_set column k ≡ true → is_set left k ≡ true
  own k on = (of k).1 (within k on, (k, omega arith, within k on, on))

  first_left : (k : ℤ) → IsFirstFull (bits column) k → IsFirstFull (bits left) k
  first_left (negsuc k) first = absurd (false≢true first.0)
  first_left (pos k) first = (own k first.0, below)
    where
      below : (n : ℤ) → n <ℤ pos k → bits left n ≡ false
      below (negsuc n) l = refl
      below (pos n) l = false_from_ne_true (is_set left n) (λ e.
          let b = (of n).0 e in let m : ℕ = b.1.0 in let less : m ≤ n = b.1.1 in
          both_ways (is_set column m) (first.1 (pos m) (omega (arith, ints, l, less))) b.1.3)

  left_first : (k : ℤ) → IsFirstFull (bits left) k → IsFirstFull (bits column) k
  left_first (negsuc k) first = absurd (false≢true first.0)
  left_first (pos k) first = (here, below)
    where
      b : IsLeftBit kept column k
      b = (of k).0 first.0

      n : ℕ
      n = b.1.0

      here : is_set column k ≡ true
      here = elim (cases_lt n k) as (λ _. is_set column k ≡ true) [
        | inl l ↦ absurd (both_ways (is_set left n) (first.1 (pos n) (omega (arith, ints, l))) (own n b.1.3))
        | inr l ↦ subst (λ m. is_set column m ≡ true) (let less : n ≤ k = b.1.1 in let same : n ≡ k = omega (arith, l, less) in same) b.1.3
      ]

      below : (m : ℤ) → m <ℤ pos k → bits column m ≡ false
      below (negsuc m) l = refl
      below (pos m) l = false_from_ne_true (is_set column m) (λ e. both_ways (is_set left m) (first.1 (pos m) l) (own m e))

module _ (kept after before left_after left_before : ℕ) (of_after : IsLeftOf (Some kept) after left_after) (of_before : IsLeftOf (Some kept) before left_before)
    (after_within : HasOnlyKept (Some kept) after) (before_within : HasOnlyKept (Some kept) before) (after_fits : after < 2 ^ 64) (before_fits : before < 2 ^ 64) where
  -- so with different numbers of zeros they draw Solid
  pub left_solid : zeros after ≢ zeros before → ColumnsDraw (bits left_after) (bits left_before) Solid
  left_solid differ same = solid_from_zeros after before after_fits before_fits differ (λ k. (
    (λ first. left_first kept before left_before of_before before_within k ((same k).0 (first_left kept after left_after of_after after_within k first))),
    (λ first. left_first kept after left_after of_after after_within k ((same k).1 (first_left kept before left_before of_before before_within k first))),
  ))

-- with as many zeros the same is left
same_left : (kept one other left_one left_other : ℕ) → IsLeftOf (Some kept) one left_one → IsLeftOf (Some kept) other left_other → HasOnlyKept (Some kept) other → one < 2 ^ 64 → other < 2 ^ 64
    → zeros one ≡ zeros other → (k : ℕ) → is_set left_one k ≡ true → is_set left_other k ≡ true
same_left kept one other left_one left_other of_one of_other within fits other_fits same k on =
    let b = (of_one k).0 on in let n : ℕ = b.1.0 in let less : n ≤ k = b.1.1 in
    let low = lowest_at_most one fits n b.1.3 in
    let deep = (lowest_set one fits (not_zero one n b.1.3)).1 in
    let there = (lowest_set other other_fits (λ none. (let all = zeros_of_none other none in omega (arith, all, deep, same)))).0 in
    (of_other k).1 (b.0, (zeros other, omega (arith, low, less, same), within (zeros other) there, there))

pub left_blank : (kept after before left_after left_before : ℕ) → IsLeftOf (Some kept) after left_after → IsLeftOf (Some kept) before left_before
    → HasOnlyKept (Some kept) after → HasOnlyKept (Some kept) before → after < 2 ^ 64 → before < 2 ^ 64 → zeros after ≡ zeros before → ColumnsDraw (bits left_after) (bits left_before) Blank
left_blank kept after before left_after left_before of_after of_before after_within before_within after_fits before_fits same = by
  where
    by : (k : ℤ) → bits left_after k ≡ bits left_before k
    by (negsuc k) = refl
    by (pos k) = same_tests (is_set left_after k) (is_set left_before k)
        (same_left kept after before left_after left_before of_after of_before before_within after_fits before_fits same k)
        (same_left kept before after left_before left_after of_before of_after after_within before_fits after_fits (sym same) k)
