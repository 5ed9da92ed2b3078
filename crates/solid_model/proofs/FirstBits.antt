-- The first full depth of a column is the number of zeros below its lowest bit.
use Rattle.std.proofs.Common.{◌≡◌, ◌≢◌, ◌⊎◌, inl, inr, true, false, ◌==◌, ℕ, ◌<◌, ◌^◌, ℤ, pos, negsuc, ◌<ℤ◌, w64, refl, ap, sym, subst, ◌∙◌, arith}
use Rattle.std.specs.Int.{bit_at}
use Rattle.std.specs.Int.RustNames.{bit_xor}
use Rattle.std.proofs.lemmas.Bool.{false≢true, cases_lt, eq-eqb}
use Rattle.std.proofs.lemmas.Int.{ints}
use Rattle.std.proofs.lemmas.Nat.Bits.{bit_at-zero, bit_at-lt, bit_at_xor, bit_at-trailing_zeros, same_from_bits}
use Rattle.solid_model.specs.declared.segment.Style.TheVariants.{Dashed, Solid}
use Rattle.solid_model.specs.Columns.{IsFirstFull, HaveSameFirstFull, ColumnsDraw}
use Rattle.lemmas.specs.Bits.{bits}
use Rattle.solid_model.proofs.ColumnRule.{one_first}
use Rattle.lemmas.proofs.WordBits.{zeros, zeros_of_none}

-- a number is 0 or isn't
pub zero_or_more : (n : ℕ) → (n ≡ 0) ⊎ (0 < n)
zero_or_more n = elim (cases_lt 0 n) as (λ _. (n ≡ 0) ⊎ (0 < n)) [ inl l ↦ inr l | inr l ↦ inl (omega arith) ]

-- two bits are equal where the tests of them are
pub same_bit : (x y : ℕ) → x < 2 → y < 2 → (x == 1) ≡ (y == 1) → x ≡ y
same_bit x y l m e = grind arith

-- a column that isn't empty has its first full depth there
first_at_zeros : (n : ℕ) → 0 < n → n < 2 ^ 64 → IsFirstFull (bits n) (pos (zeros n))
first_at_zeros n some l =
    let lowest = bit_at-trailing_zeros w64 n some l in
    (eq-eqb _ _ lowest.1, below lowest.2)
  where
    below : ((i : ℕ) → i < zeros n → bit_at n i ≡ 0) → (k : ℤ) → k <ℤ pos (zeros n) → bits n k ≡ false
    below none (pos i) m = ap (λ b. b == 1) (none i (omega (arith, ints)))
    below none (negsuc i) m = refl

-- an empty column has none
never_first : (n : ℕ) (k : ℤ) → n ≡ 0 → bits n k ≡ true → ⊥
never_first n (pos i) e set = false≢true (sym (ap (λ b. b == 1) (ap (λ m. bit_at m i) e ∙ bit_at-zero i)) ∙ set)
never_first n (negsuc i) e set = false≢true set

module _ (a b : ℕ) (a_fits : a < 2 ^ 64) (b_fits : b < 2 ^ 64) where
  -- with as many zeros, the first full depth of the one is that of the other
  first_kept : zeros a ≡ zeros b → (k : ℤ) → IsFirstFull (bits a) k → IsFirstFull (bits b) k
  first_kept same k first = elim (zero_or_more a) as (λ _. IsFirstFull (bits b) k) [
    | inl none ↦ absurd (never_first a k none first.0)
    | inr some ↦ by some (zero_or_more b)
  ]
    where
      by : 0 < a → (b ≡ 0) ⊎ (0 < b) → IsFirstFull (bits b) k
      by some (inl none) =
          let within = (bit_at-trailing_zeros w64 a some a_fits).0 in
          let all = zeros_of_none b none in
          absurd (omega arith)
      by some (inr more) =
          let at : pos (zeros b) ≡ k = sym (ap pos same) ∙ one_first (bits a) (pos (zeros a)) k (first_at_zeros a some a_fits) first in
          subst (IsFirstFull (bits b)) at (first_at_zeros b more b_fits)

-- columns with as many zeros have the same first full depth,
pub same_first : (a b : ℕ) → a < 2 ^ 64 → b < 2 ^ 64 → zeros a ≡ zeros b → HaveSameFirstFull (bits a) (bits b)
same_first a b l m same k = (first_kept a b l m same k, first_kept b a m l (sym same) k)

-- and those with the same first full depth have as many
same_zeros : (a b : ℕ) → a < 2 ^ 64 → b < 2 ^ 64 → HaveSameFirstFull (bits a) (bits b) → zeros a ≡ zeros b
same_zeros a b l m same = by (zero_or_more a) (zero_or_more b)
  where
    by : (a ≡ 0) ⊎ (0 < a) → (b ≡ 0) ⊎ (0 < b) → zeros a ≡ zeros b
    by (inl none) (inl empty) = ap zeros (none ∙ sym empty)
    by (inl none) (inr some) = absurd (never_first a (pos (zeros b)) none ((same (pos (zeros b))).1 (first_at_zeros b some m)).0)
    by (inr some) (inl none) = absurd (never_first b (pos (zeros a)) none ((same (pos (zeros a))).0 (first_at_zeros a some l)).0)
    by (inr some) (inr more) =
        let at = one_first (bits b) (pos (zeros a)) (pos (zeros b)) ((same (pos (zeros a))).0 (first_at_zeros a some l)) (first_at_zeros b more m) in
        omega (arith, ints)

-- two different numbers differ in some bit: that of the lowest bit of the two together, each bit set where one is
some_bit_differs : (a b : ℕ) → bit_xor a b < 2 ^ 64 → a ≢ b → (k : ℤ) × (bits a k ≢ bits b k)
some_bit_differs a b l differ = elim (zero_or_more (bit_xor a b)) as (λ _. (k : ℤ) × (bits a k ≢ bits b k)) [
  | inl none ↦ absurd (differ (same_from_bits a b (λ i. equal i none)))
  | inr some ↦ (pos (zeros (bit_xor a b)), λ same. unlike some same)
]
  where
    equal : (i : ℕ) → bit_xor a b ≡ 0 → bit_at a i ≡ bit_at b i
    equal i none =
        let sum = sym (bit_at_xor a b i) ∙ ap (λ x. bit_at x i) none ∙ bit_at-zero i in
        let l = bit_at-lt a i in
        let m = bit_at-lt b i in
        omega arith

    unlike : 0 < bit_xor a b → bits a (pos (zeros (bit_xor a b))) ≡ bits b (pos (zeros (bit_xor a b))) → ⊥
    unlike some same =
        let i = zeros (bit_xor a b) in
        let e : bit_at a i ≡ bit_at b i = same_bit (bit_at a i) (bit_at b i) (bit_at-lt a i) (bit_at-lt b i) same in
        let set = sym (bit_at_xor a b i) ∙ (bit_at-trailing_zeros w64 (bit_xor a b) some l).1 in
        let m = bit_at-lt a i in
        omega arith

-- different columns with as many zeros draw Dashed
pub dashed_from_zeros : (a b : ℕ) → a < 2 ^ 64 → b < 2 ^ 64 → bit_xor a b < 2 ^ 64 → a ≢ b → zeros a ≡ zeros b → ColumnsDraw (bits a) (bits b) Dashed
dashed_from_zeros a b l m both differ same = (some_bit_differs a b both differ, same_first a b l m same)

-- and those with different numbers of zeros Solid
pub solid_from_zeros : (a b : ℕ) → a < 2 ^ 64 → b < 2 ^ 64 → zeros a ≢ zeros b → ColumnsDraw (bits a) (bits b) Solid
solid_from_zeros a b l m differ same = differ (same_zeros a b l m same)
