-- A number without its lowest bit.
use Rattle.std.proofs.Common.{◌≡◌, ◌≢◌, ◌↔◌, inl, inr, Bool, true, false, not, ◌&&◌, ◌||◌, ℕ, ◌<◌, ◌^◌, ◌==◌, bit_and, bit_or, refl, ap, sym, ◌∙◌, arith}
use Rattle.std.proofs.lemmas.Bool.{cases_Bool, cases_lt, both_ways, and_parts, and_from, not-true, not_from_false}
use Rattle.std.proofs.lemmas.Nat.Bits.{bit_at_above, bit_at-zero}
use Rattle.lemmas.specs.Bits.{is_set, near}
use Rattle.lemmas.proofs.NearBits.{near_to, near_from}
use Rattle.solid_model.proofs.FirstBits.{zero_or_more}
use Rattle.lemmas.proofs.WordBits.{zeros, set_both, set_either, zeros_of_none, not_zero, lowest_set, below_lowest, lowest_at_most}

module _ (n : ℕ) (fits : n < 2 ^ 64) where
  pub set_within : (k : ℕ) → is_set n k ≡ true → k < 64
  set_within k set = elim (cases_lt k 64) as (λ _. k < 64) [
    | inl l ↦ l
    | inr far ↦ absurd (both_ways (is_set n k) (ap (λ b. b == 1) (bit_at_above n 64 k fits far)) set)
  ]

  above : (k : ℕ) → is_set n k ≡ true → is_set (near n) k ≡ false → zeros n < k
  above k set off = elim (cases_lt (zeros n) k) as (λ _. zeros n < k) [
    | inl l ↦ l
    | inr near_there ↦ absurd (both_ways (is_set (near n) k) off (near_to n k fits (set_within k set) near_there))
  ]

  far : (k : ℕ) → is_set n k ≡ true → (j : ℕ) → j < k → is_set n j ≡ true → is_set (near n) k ≡ false
  far k set j below there = elim (cases_Bool (is_set (near n) k)) as (λ _. is_set (near n) k ≡ false) [
    | inl on ↦ absurd (let l = near_from n k fits (set_within k set) on in let m = lowest_at_most n fits j there in omega arith)
    | inr off ↦ off
  ]

  module _ (left : ℕ) (is : (k : ℕ) → is_set left k ≡ (is_set n k && not (is_set (near n) k))) where
    -- a bit is left where it is set and another one below it is
    pub left_lowest : (k : ℕ) → (is_set left k ≡ true) ↔ ((is_set n k ≡ true) × ((j : ℕ) × (j < k) × (is_set n j ≡ true)))
    left_lowest k = (
      (λ set. let parts = and_parts (is_set n k) (not (is_set (near n) k)) (sym (is k) ∙ set) in
          (parts.0, (zeros n, above k parts.0 (not-true (is_set (near n) k) parts.1), (lowest_set n fits (not_zero n k parts.0)).0))),
      (λ (set, (j, below, there)). is k ∙ and_from (is_set n k) (not (is_set (near n) k)) set (not_from_false (is_set (near n) k) (far k set j below there))),
    )

-- ---- the bits that are left while they are taken one after another, the lowest first

module _ (n rest : ℕ) (fits : n < 2 ^ 64) (fits_too : rest < 2 ^ 64) (some : n ≢ 0) (is : (k : ℕ) → (is_set rest k ≡ true) ↔ ((is_set n k ≡ true) × ((j : ℕ) × (j < k) × (is_set n j ≡ true)))) where
  -- the next one stands higher
  pub rest_higher : zeros n < zeros rest
  rest_higher = elim (zero_or_more rest) as (λ _. zeros n < zeros rest) [
    | inl none ↦ (let all = zeros_of_none rest none in let low = (lowest_set n fits some).1 in omega arith)
    | inr more ↦ (let (_, (j, below, there)) = (is (zeros rest)).0 (lowest_set rest fits_too (λ e. (omega arith))).0 in let low = lowest_at_most n fits j there in omega arith)
  ]

  -- what isn't set isn't left, and the lowest one isn't,
  pub rest_off : (k : ℕ) → is_set n k ≡ false → is_set rest k ≡ false
  rest_off k off = elim (cases_Bool (is_set rest k)) as (λ _. is_set rest k ≡ false) [ inl set ↦ absurd (both_ways (is_set n k) off ((is k).0 set).0) | inr e ↦ e ]

  pub rest_lowest : is_set rest (zeros n) ≡ false
  rest_lowest = elim (cases_Bool (is_set rest (zeros n))) as (λ _. is_set rest (zeros n) ≡ false) [
    | inl set ↦ (let (_, (j, below, there)) = (is (zeros n)).0 set in absurd (both_ways (is_set n j) (below_lowest n fits j below) there))
    | inr e ↦ e
  ]

  -- but each other one is
  pub rest_other : (k : ℕ) → is_set n k ≡ true → is_set rest k ≡ false → k ≡ zeros n
  rest_other k set off = elim (cases_lt (zeros n) k) as (λ _. k ≡ zeros n) [
    | inl above ↦ absurd (both_ways (is_set rest k) off ((is k).1 (set, (zeros n, above, (lowest_set n fits some).0))))
    | inr near ↦ (let low = lowest_at_most n fits k set in omega arith)
  ]

-- ---- bits of none

-- no bit is set in 0,
pub none_set : (n : ℕ) → n ≡ 0 → (k : ℕ) → is_set n k ≡ false
none_set n none k = ap (λ m. is_set m k) none ∙ ap (λ bit. bit == 1) (bit_at-zero k)

-- so one that is set in one of two numbers that share none isn't in the other
pub other_clear : (n cells : ℕ) → bit_and n cells ≡ 0 → (k : ℕ) → is_set cells k ≡ true → is_set n k ≡ false
other_clear n cells none k set = by (is_set n k) (is_set cells k) set (sym (set_both n cells k) ∙ none_set (bit_and n cells) none k)
  where
    by : (x y : Bool) → y ≡ true → (x && y) ≡ false → x ≡ false
    by true y e off = absurd (both_ways y off e)
    by false y e off = refl

-- a bit that isn't set in either of two numbers is set in neither,
pub clear_of_either : (a b k : ℕ) → is_set (bit_or a b) k ≡ false → (is_set a k ≡ false) × (is_set b k ≡ false)
clear_of_either a b k clear = by (is_set a k) (is_set b k) (sym (set_either a b k) ∙ clear)
  where
    by : (x y : Bool) → (x || y) ≡ false → (x ≡ false) × (y ≡ false)
    by true y off = absurd (both_ways true off refl)
    by false y off = (refl, off)

-- and none is where together they have none
pub none_of_either : (a b : ℕ) → bit_or a b ≡ 0 → (k : ℕ) → (is_set a k ≡ false) × (is_set b k ≡ false)
none_of_either a b none k = clear_of_either a b k (none_set (bit_or a b) none k)
