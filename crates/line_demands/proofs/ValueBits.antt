-- A bit more of what is full, or one less of what may be.
use Rattle.std.proofs.Common.{◌≡◌, ◌≢◌, ◌↔◌, ◌==◌, ◌&&◌, ◌||◌, inl, inr, Bool, true, false, not, if◌then◌else◌, ℕ, zero, suc, ◌+◌, ◌*◌, ◌%◌, ◌^◌, ◌<◌, Option, Some, None, bit_and, bit_or, bit_xor, w64, ℤ, pos, negsuc, refl, ap, ap₂, sym, subst, ◌∙◌, arith}
use Rattle.std.specs.Int.{bit_at, bit_not}
use Rattle.std.specs.Int.Bits.{and_lt}
use Rattle.std.proofs.lemmas.Bool.{both_ways, cases_Bool, cases_lt, eqb-true, eqb-false, and_parts, and_from, not-true, not_from_false}
use Rattle.std.proofs.lemmas.Nat.Bits.{bit_at_xor, bit_at-lt, bit_at_set_same, bit_at_set_other, bit_at_clear_same, bit_at_clear_other, bit_at_above}
use Rattle.std.proofs.lemmas.Option.{none-some}
use Rattle.solid_model.specs.Known.{known_of, known_bits, LiesWithin}
use Rattle.solid_model.specs.declared.segment.Style.{Style}
use Rattle.lemmas.specs.Bits.{is_set}
use Rattle.solid_model.specs.Demands.{CanDraw}
use Rattle.solid_model.specs.Forcing.{with_value}
use Rattle.column_laws.proofs.WithValue.{agrees_from, agrees_to}
use Rattle.line_demands.specs.Doubted.{CanDrawWith}

-- a cell of which nothing is known isn't full for certain, and may be full
pub undecided_bits : (full may k : ℕ) → known_bits full may (pos k) ≡ None → (is_set full k ≡ false) × (is_set may k ≡ true)
undecided_bits full may k = by (is_set full k) (is_set may k)
  where
    by : (f m : Bool) → known_of f m ≡ None → (f ≡ false) × (m ≡ true)
    by true m e = absurd (none-some true (sym e))
    by false true e = (refl, refl)
    by false false e = absurd (none-some false (sym e))

-- such a cell is undecided
pub open_bits : (full may k : ℕ) → is_set may k ≡ true → is_set full k ≡ false → known_bits full may (pos k) ≡ None
open_bits full may k set clear = ap₂ known_of clear set

-- the bits in which two numbers differ, of which one lies within the other
pub set_apart : (full may : ℕ) → LiesWithin full may → (k : ℕ) → is_set (bit_xor may full) k ≡ (is_set may k && not (is_set full k))
set_apart full may within k = ap (λ x. x == 1) (bit_at_xor may full k) ∙ by (bit_at may k) (bit_at full k) (bit_at-lt may k) (bit_at-lt full k) (within k)
  where
    by : (x y : ℕ) → x < 2 → y < 2 → ((y == 1) ≡ true → (x == 1) ≡ true) → ((x + y) % 2 == 1) ≡ ((x == 1) && not (y == 1))
    by zero zero l m inside = refl
    by zero (suc zero) l m inside = absurd (both_ways false refl (inside refl))
    by (suc zero) zero l m inside = refl
    by (suc zero) (suc zero) l m inside = refl
    by zero (suc (suc y)) l m inside = absurd (omega arith)
    by (suc zero) (suc (suc y)) l m inside = absurd (omega arith)
    by (suc (suc x)) y l m inside = absurd (omega arith)

-- its bit is one of those that may be full but aren't for certain
module _ (full may u : ℕ) (is : (k : ℕ) → is_set u k ≡ (is_set may k && not (is_set full k))) (k : ℕ) where
  pub open_from : is_set u k ≡ true → known_bits full may (pos k) ≡ None
  open_from set = let parts = and_parts (is_set may k) (not (is_set full k)) (sym (is k) ∙ set) in open_bits full may k parts.0 (not-true (is_set full k) parts.1)

  pub open_to : known_bits full may (pos k) ≡ None → is_set u k ≡ true
  open_to none = let bits = undecided_bits full may k none in is k ∙ and_from (is_set may k) (not (is_set full k)) bits.1 (not_from_false (is_set full k) bits.0)

-- ---- of two bits

pub shared_bit : (x y : Bool) → x ≡ true → (x && not y) ≡ false → y ≡ true
shared_bit true true e off = refl
shared_bit true false e off = sym off
shared_bit false y e off = absurd (both_ways false refl e)

pub clear_beside : (x y : Bool) → x ≡ true → (x && y) ≡ false → y ≡ false
clear_beside true y e off = off
clear_beside false y e off = absurd (both_ways false refl e)

pub clear_first : (x y : Bool) → (x || y) ≡ false → x ≡ false
clear_first true y off = off
clear_first false y off = refl

pub clear_second : (x y : Bool) → (x || y) ≡ false → y ≡ false
clear_second true y off = absurd (both_ways true off refl)
clear_second false y off = off

-- ----

-- an undecided cell stands within the word
pub undecided_within : (full may k : ℕ) → may < 2 ^ 64 → known_bits full may (pos k) ≡ None → k < 64
undecided_within full may k fits none = elim (cases_lt k 64) as (λ _. k < 64) [
  | inl l ↦ l
  | inr far ↦ absurd (both_ways (is_set may k) (ap (λ b. b == 1) (bit_at_above may 64 k fits far)) (undecided_bits full may k none).1)
]

abbrev pub bit : ℕ → ℕ
bit d = 1 * 2 ^ d % 2 ^ 64

module _ (full may d : ℕ) (within : LiesWithin full may) (l : d < 64) (m_fits : may < 2 ^ 64) (undecided : known_bits full may (pos d) ≡ None) where
  free : (is_set full d ≡ false) × (is_set may d ≡ true)
  free = undecided_bits full may d undecided

  set_there : is_set (bit_or full (bit d)) d ≡ true
  set_there = ap (λ b. b == 1) (bit_at_set_same w64 full d l)

  set_kept : (k : ℕ) → k ≢ d → is_set (bit_or full (bit d)) k ≡ is_set full k
  set_kept k other = ap (λ b. b == 1) (bit_at_set_other w64 full d l k other)

  pub clear_there : is_set (bit_and may (bit_not w64 (bit d))) d ≡ false
  clear_there = ap (λ b. b == 1) (bit_at_clear_same w64 may d l)

  pub clear_kept : (k : ℕ) → k ≢ d → is_set (bit_and may (bit_not w64 (bit d))) k ≡ is_set may k
  clear_kept k other = elim (cases_lt k 64) as (λ _. is_set (bit_and may (bit_not w64 (bit d))) k ≡ is_set may k) [
    | inl m ↦ ap (λ b. b == 1) (bit_at_clear_other w64 may d l k m other)
    | inr m ↦ ap (λ b. b == 1) (bit_at_above (bit_and may (bit_not w64 (bit d))) 64 k (and_lt 64 may (bit_not w64 (bit d)) m_fits (omega arith)) m ∙ sym (bit_at_above may 64 k m_fits m))
  ]

  pub within_more : LiesWithin (bit_or full (bit d)) may
  within_more k set = elim (cases_Bool (k == d)) as (λ _. is_set may k ≡ true) [
    | inl at ↦ ap (is_set may) (eqb-true k d at) ∙ free.1
    | inr other ↦ within k (sym (set_kept k (eqb-false k d other)) ∙ set)
  ]

  pub within_less : LiesWithin full (bit_and may (bit_not w64 (bit d)))
  within_less k set = elim (cases_Bool (k == d)) as (λ _. is_set (bit_and may (bit_not w64 (bit d))) k ≡ true) [
    | inl at ↦ absurd (both_ways (is_set full d) free.0 (ap (is_set full) (sym (eqb-true k d at)) ∙ set))
    | inr other ↦ clear_kept k (eqb-false k d other) ∙ within k set
  ]

  at_depth : (value : Bool) (column : ℤ → Option Bool) → ((k : ℕ) → k ≢ d → column (pos k) ≡ known_bits full may (pos k)) → column (pos d) ≡ Some value
      → ((k : ℕ) → column (negsuc k) ≡ Some false) → (k : ℤ) → column k ≡ with_value d value (known_bits full may) k
  at_depth value column others there below (negsuc k) = below k
  at_depth value column others there below (pos k) = by (k == d) refl
    where
      by : (t : Bool) → (k == d) ≡ t → column (pos k) ≡ (if k == d then Some value else (known_bits full may (pos k)))
      by true e = ap (λ j. column (pos j)) (eqb-true k d e) ∙ there ∙ ap (λ (t : Bool). if t then Some value else (known_bits full may (pos k))) (sym e)
      by false e = others k (eqb-false k d e) ∙ ap (λ (t : Bool). if t then Some value else (known_bits full may (pos k))) (sym e)

  pub known_more : (k : ℤ) → known_bits (bit_or full (bit d)) may k ≡ with_value d true (known_bits full may) k
  known_more = at_depth true (known_bits (bit_or full (bit d)) may) (λ k other. ap (λ f. known_of f (is_set may k)) (set_kept k other))
      (ap (λ f. known_of f (is_set may d)) set_there) (λ k. refl)

  pub known_less : (k : ℤ) → known_bits full (bit_and may (bit_not w64 (bit d))) k ≡ with_value d false (known_bits full may) k
  known_less = at_depth false (known_bits full (bit_and may (bit_not w64 (bit d)))) (λ k other. ap (known_of (is_set full k)) (clear_kept k other))
      (ap₂ known_of free.0 clear_there) (λ k. refl)

-- what two columns can draw with the value
pub draws_with : (known other changed : ℤ → Option Bool) (style : Style) (depth : ℕ) (value : Bool) → known (pos depth) ≡ None
    → ((k : ℤ) → changed k ≡ with_value depth value known k) → CanDraw changed other style ↔ CanDrawWith known other style depth value
draws_with known other changed style depth value none is = (
  (λ drawn. from (subst (λ a. CanDraw a other style) same drawn)),
  (λ (a, b, agrees, agrees_too, at, draws). subst (λ a. CanDraw a other style) (sym same) (a, b, agrees_to depth value known a agrees at, agrees_too, draws)),
)
  where
    same : changed ≡ with_value depth value known
    same t k = is k t

    from : CanDraw (with_value depth value known) other style → CanDrawWith known other style depth value
    from (a, b, agrees, agrees_too, draws) = let both = agrees_from depth value known a none agrees in (a, b, both.0, agrees_too, both.1, draws)
