-- The bits of words that operations of the machine make, and the lowest bit of a word.
use Rattle.std.proofs.Common.{◌≡◌, ◌≢◌, inl, inr, true, false, not, ◌&&◌, ◌||◌, ◌==◌, ℕ, suc, ◌+◌, ◌-◌, ◌*◌, ◌/◌, ◌%◌, ◌<◌, ◌≤◌, ◌^◌, min, max, bit_and, bit_or, w64, ap, sym, ◌∙◌, arith}
use Rattle.std.specs.Int.{bit_at, bit_not, trailing_zeros}
use Rattle.std.specs.Int.Count.{trailing_of_zero}
use Rattle.std.specs.Int.RustNames.{bit_xor}
use Rattle.std.proofs.lemmas.Bool.{false≢true, both_ways, cases_lt, eq-eqb}
use Rattle.std.proofs.lemmas.Nat.{div-add-mod'}
use Rattle.std.proofs.lemmas.Nat.Bits.{bit_at-zero, bit_at-lt, bit_at-trailing_zeros, bit_at_and, bit_at_or, bit_at_xor, bit_at_not, bit_at_above, bit_at_cat_low, bit_at_cat_high}
use Rattle.lemmas.specs.Bits.{is_set}

and_both : (x y : ℕ) → x < 2 → y < 2 → (min x y == 1) ≡ ((x == 1) && (y == 1))
and_both x y l m = grind arith

or_both : (x y : ℕ) → x < 2 → y < 2 → (max x y == 1) ≡ ((x == 1) || (y == 1))
or_both x y l m = grind arith

other : (x : ℕ) → x < 2 → (1 - x == 1) ≡ not (x == 1)
other x l = grind arith

-- those of both,
pub set_both : (a b k : ℕ) → is_set (bit_and a b) k ≡ (is_set a k && is_set b k)
set_both a b k = ap (λ x. x == 1) (bit_at_and a b k) ∙ and_both (bit_at a k) (bit_at b k) (bit_at-lt a k) (bit_at-lt b k)

-- of either,
pub set_either : (a b k : ℕ) → is_set (bit_or a b) k ≡ (is_set a k || is_set b k)
set_either a b k = ap (λ x. x == 1) (bit_at_or a b k) ∙ or_both (bit_at a k) (bit_at b k) (bit_at-lt a k) (bit_at-lt b k)

-- and of the one without the other
pub set_without : (a b k : ℕ) → a < 2 ^ 64 → b < 2 ^ 64 → is_set (bit_and a (bit_not w64 b)) k ≡ (is_set a k && not (is_set b k))
set_without a b k l m = set_both a (bit_not w64 b) k ∙ elim (cases_lt k 64) as (λ _. (is_set a k && is_set (bit_not w64 b) k) ≡ (is_set a k && not (is_set b k))) [
  | inl within ↦ ap (λ x. is_set a k && x) (ap (λ x. x == 1) (bit_at_not w64 b k m within) ∙ other (bit_at b k) (bit_at-lt b k))
  | inr beyond ↦ (let none : is_set a k ≡ false = ap (λ x. x == 1) (bit_at_above a 64 k l beyond) in
      ap (λ x. x && is_set (bit_not w64 b) k) none ∙ ap (λ x. x && not (is_set b k)) (sym none))
]

-- where a bit doesn't tell that two words differ, they are the same there
pub same_where_clear : (a b k : ℕ) → is_set (bit_xor a b) k ≡ false → is_set a k ≡ is_set b k
same_where_clear a b k clear = same (bit_at a k) (bit_at b k) (bit_at-lt a k) (bit_at-lt b k) (sym (ap (λ x. x == 1) (bit_at_xor a b k)) ∙ clear)
  where
    same : (x y : ℕ) → x < 2 → y < 2 → ((x + y) % 2 == 1) ≡ false → (x == 1) ≡ (y == 1)
    same x y l m e = grind arith

-- the bits that stay in a word
low_bits : (m i : ℕ) → i < 64 → bit_at (m % 2 ^ 64) i ≡ bit_at (m + 0) i
low_bits m i l = sym (bit_at_cat_low (m / 2 ^ 64) 64 (m % 2 ^ 64) i l) ∙ ap (λ x. bit_at x i) (div-add-mod' m (2 ^ 64) ∙ omega arith)

-- a word that is moved up by one: its lowest bit is clear,
pub moved_up_first : (n : ℕ) → is_set (n * 2 ^ 1 % 2 ^ 64) 0 ≡ false
moved_up_first n = ap (λ x. x == 1) (low_bits (n * 2 ^ 1) 0 (omega arith) ∙ bit_at_cat_low n 1 0 0 (omega arith))

-- and each other one is that below
pub moved_up : (n u : ℕ) → suc u < 64 → is_set (n * 2 ^ 1 % 2 ^ 64) (suc u) ≡ is_set n u
moved_up n u l = ap (λ x. x == 1) (low_bits (n * 2 ^ 1) (suc u) l ∙ bit_at_cat_high n 1 0 (suc u) (omega arith) (omega arith)
    ∙ ap (bit_at n) (let e : suc u - 1 ≡ u = omega arith in e))

-- ---- the lowest bit

-- a number with a bit isn't 0
pub not_zero : (n k : ℕ) → is_set n k ≡ true → n ≢ 0
not_zero n k set none = false≢true (sym (ap (λ b. b == 1) (ap (λ m. bit_at m k) none ∙ bit_at-zero k)) ∙ set)

-- the number of zeros below the lowest bit of a number of 64 bits
abbrev pub zeros : ℕ → ℕ
zeros n = trailing_zeros w64 n

-- 0 has nothing else
pub zeros_of_none : (n : ℕ) → n ≡ 0 → zeros n ≡ 64
zeros_of_none n none = ap zeros none ∙ trailing_of_zero 64

module _ (n : ℕ) (fits : n < 2 ^ 64) where
  -- the lowest bit is set, and stands within,
  pub lowest_set : n ≢ 0 → (is_set n (zeros n) ≡ true) × (zeros n < 64)
  lowest_set some = let lowest = bit_at-trailing_zeros w64 n (omega arith) fits in (eq-eqb _ _ lowest.1, lowest.0)

  -- and none below it is
  pub below_lowest : (k : ℕ) → k < zeros n → is_set n k ≡ false
  below_lowest k l = elim (cases_lt 0 n) as (λ _. is_set n k ≡ false) [
    | inl some ↦ ap (λ b. b == 1) ((bit_at-trailing_zeros w64 n some fits).2 k l)
    | inr none ↦ (let e : n ≡ 0 = omega arith in ap (λ b. b == 1) (ap (λ m. bit_at m k) e ∙ bit_at-zero k))
  ]

  -- so it isn't above a bit that is,
  pub lowest_at_most : (k : ℕ) → is_set n k ≡ true → zeros n ≤ k
  lowest_at_most k set = elim (cases_lt k (zeros n)) as (λ _. zeros n ≤ k) [ inl l ↦ absurd (both_ways (is_set n k) (below_lowest k l) set) | inr l ↦ l ]

  -- and not below a place down to which there is none
  pub lowest_at_least : (d : ℕ) → d < 64 → ((k : ℕ) → k < d → is_set n k ≡ false) → d ≤ zeros n
  lowest_at_least d within clear = elim (cases_lt (zeros n) d) as (λ _. d ≤ zeros n) [
    | inl l ↦ absurd (both_ways (is_set n (zeros n)) (clear (zeros n) l) (lowest_set (λ none. (let all = zeros_of_none n none in omega (arith, all)))).0)
    | inr l ↦ l
  ]
