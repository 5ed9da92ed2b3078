-- Digits: those that a text begins with, and the number that they write.
use Rattle.std.proofs.Common.{◌≡◌, ◌≢◌, ℕ, zero, suc, ◌+◌, ◌-◌, ◌*◌, ◌^◌, ◌<◌, ◌≤◌, Bool, true, false, cond, not, ltb, ◌==◌, Some, None, inl, inr, List, [], ◌∷◌, ◌++◌, length, take, drop, get_or, refl, sym, ap, ap₂, ◌∙◌, zero-add, eq-eqb, arith}
use Rattle.std.specs.List.{list_all, position, position_or_len}
use Rattle.std.specs.Option.{unwrap_or}
use Rattle.std.specs.Int.{IsInRange}
use Rattle.std.specs.Char.{digit_value, is_ascii_digit, is_digit}
use Rattle.std.specs.Str.Parse.{AllDigits, digits_value, digits_value_after}
use Rattle.std.proofs.Math.Nat.{mul-le-mul_left, one-le-pow, pow-le-pow_right, pow-suc}
use Rattle.std.proofs.Math.Seq.{take-append_seam, drop-append_seam}
use Rattle.std.proofs.lemmas.Bool.{cases_lt, lt-ltb, le-ltb, and_parts, eqb-true}
use Rattle.std.proofs.lemmas.List.{drop_more, length-append}
use Rattle.std.proofs.lemmas.Bool.Decides.{nat_tests}
use Rattle.std.proofs.lemmas.Str.Parse.{digit_at, digit_from_value}
use Rattle.dxf_groups.specs.NumeralParts.{capped, IsKeptShift}
use Rattle.dxf_groups.specs.Numerals.{leading_digits, past_digits}

-- ---- a digit

-- the bytes from `0` to `9` have the values from 0 to 9
range_value : (b : ℕ) → IsInRange 48 57 b → digit_value b ≡ b - 48
range_value b range = grind (arith, nat_tests, range.0, range.1)

-- a byte that is one of them
pub record IsDigitByte (b : ℕ) : Type 0 where
  pub least : 48 ≤ b
  pub greatest : b ≤ 57
  pub value : digit_value b ≡ b - 48

-- a byte with such a value is
pub digit_byte : (b : ℕ) → digit_value b < 10 → IsDigitByte b
digit_byte b small =
    let range = digit_from_value b small in
    record { least = range.0; greatest = range.1; value = range_value b range }

-- the digit at a place of a list of digits
pub value_at : (ds : List ℕ) (i : ℕ) → AllDigits 10 ds → i < length ds
    → (48 ≤ get_or ds i 0) × (digit_value (get_or ds i 0) ≡ get_or ds i 0 - 48)
value_at ds i digits within =
    let range = digit_at ds i digits within in
    (range.0, range_value (get_or ds i 0) range)

-- a byte is a digit by its value just where it is one by its range
pub same_test : (b : ℕ) → is_digit b 10 ≡ is_ascii_digit b
same_test b = grind (arith, nat_tests)

-- the test finds each digit
pub is_digit_true : (b : ℕ) → digit_value b < 10 → is_digit b 10 ≡ true
is_digit_true b small = grind (arith, nat_tests)

-- and nothing else
pub from_is_digit : (b : ℕ) → is_digit b 10 ≡ true → digit_value b < 10
from_is_digit b test = grind (arith, nat_tests)

-- where two lists together are digits, each of them is
pub digits_parts : (ds es : List ℕ) → AllDigits 10 (ds ++ es) → AllDigits 10 ds × AllDigits 10 es
digits_parts [] es digits = (tt, digits)
digits_parts (d ∷ ds) es digits =
    let more = digits_parts ds es digits.1 in
    ((digits.0, more.0), more.1)

-- and where each is, both together are
pub digits_append : (ds es : List ℕ) → AllDigits 10 ds → AllDigits 10 es → AllDigits 10 (ds ++ es)
digits_append [] es first second = second
digits_append (d ∷ ds) es first second = (first.0, digits_append ds es first.1 second)

-- ---- the digits that a text begins with

-- a text is the digits that it begins with and what follows them
pub leading_and_past : (bs : List ℕ) → leading_digits bs ++ past_digits bs ≡ bs
leading_and_past [] = refl
leading_and_past (b ∷ bs) = at (is_digit b 10) (leading_and_past bs)
  where
    at : (u : Bool) → leading_digits bs ++ past_digits bs ≡ bs
        → cond u (b ∷ leading_digits bs) [] ++ cond u (past_digits bs) (b ∷ bs) ≡ b ∷ bs
    at true more = ap (λ xs. b ∷ xs) more
    at false more = refl

-- the digits that it begins with are digits
pub leading_all_digits : (bs : List ℕ) → AllDigits 10 (leading_digits bs)
leading_all_digits [] = tt
leading_all_digits (b ∷ bs) = at (is_digit b 10) refl (leading_all_digits bs)
  where
    at : (u : Bool) → is_digit b 10 ≡ u → AllDigits 10 (leading_digits bs)
        → AllDigits 10 (cond u (b ∷ leading_digits bs) [])
    at true is more = (from_is_digit b is, more)
    at false is more = tt

-- a byte that is no digit
abbrev pub is_other : ℕ → Bool
is_other b = not (is_ascii_digit b)

-- the first such byte stands where the digits that it begins with end
pub leading_length : (bs : List ℕ) → position_or_len is_other bs ≡ length (leading_digits bs)
leading_length [] = refl
leading_length (b ∷ bs) = at (is_digit b 10) (same_test b) (leading_length bs)
  where
    at : (u : Bool) → u ≡ is_ascii_digit b
        → position_or_len is_other bs ≡ length (leading_digits bs)
        → cond (not (not (is_ascii_digit b))) (1 + position_or_len is_other bs) 0
        ≡ length (cond u (b ∷ leading_digits bs) [])
    at true is more = rw (← is) (omega (arith, more))
    at false is more = rw (← is) refl

-- a place of a text, or its end
place_or_end : (p n : ℕ) → p ≤ n → unwrap_or (cond (ltb p n) (Some p) None) n ≡ p
place_or_end p n within =
    elim (cases_lt p n) as (λ _. unwrap_or (cond (ltb p n) (Some p) None) n ≡ p) [
      | inl less ↦ rw (lt-ltb p n less) refl
      | inr same ↦ rw (le-ltb p n same) (omega arith)
    ]

-- that place ends them, or the text's end does
pub leading_ends : (bs : List ℕ)
    → unwrap_or (position is_other bs) (length bs) ≡ length (leading_digits bs)
leading_ends bs =
    let within : length (leading_digits bs) ≤ length bs =
    omega
    (arith, ap length (leading_and_past bs), length-append (leading_digits bs) (past_digits bs)) in
    rw (leading_length bs) (place_or_end (length (leading_digits bs)) (length bs) within)

-- the text before that place is the digits
pub leading_taken : (bs : List ℕ) → take (length (leading_digits bs)) bs ≡ leading_digits bs
leading_taken bs =
    ap (take (length (leading_digits bs))) (sym (leading_and_past bs))
    ∙ take-append_seam (leading_digits bs) (past_digits bs)

-- and the rest is what follows them
pub past_dropped : (bs : List ℕ) → drop (length (leading_digits bs)) bs ≡ past_digits bs
past_dropped bs =
    ap (drop (length (leading_digits bs))) (sym (leading_and_past bs))
    ∙ drop-append_seam (leading_digits bs) (past_digits bs)

-- ---- the number that digits write

-- a first digit's share of a number
spread : (n d p v : ℕ) → (n * 10 + d) * p + v ≡ n * (p * 10) + (d * p + v)
spread n d p v = omega arith

-- digits that follow a number shift it by their places
pub value_after : (n : ℕ) (ds : List ℕ)
    → digits_value_after 10 n ds ≡ n * 10 ^ length ds + digits_value 10 ds
value_after n [] = omega arith
value_after n (d ∷ ds) =
    let alone =
    ap (λ m. digits_value_after 10 m ds) (zero-add (digit_value d))
    ∙ value_after (digit_value d) ds in
    value_after (n * 10 + digit_value d) ds
    ∙
    (spread n (digit_value d) (10 ^ length ds) (digits_value 10 ds)
    ∙ sym (ap₂ (λ p m. n * p + m) (pow-suc 10 (length ds)) alone))

-- the number of digits after a first one
pub value_cons : (d : ℕ) (ds : List ℕ)
    → digits_value 10 (d ∷ ds) ≡ digit_value d * 10 ^ length ds + digits_value 10 ds
value_cons d ds =
    ap (λ n. digits_value_after 10 n ds) (zero-add (digit_value d))
    ∙ value_after (digit_value d) ds

-- digits that follow others are read on from their number
pub value_append : (n : ℕ) (ds es : List ℕ)
    → digits_value_after 10 n (ds ++ es) ≡ digits_value_after 10 (digits_value_after 10 n ds) es
value_append n [] es = refl
value_append n (d ∷ ds) es = value_append (n * 10 + digit_value d) ds es

-- the number of two lists of digits, by their numbers
pub value_parts : (ds es : List ℕ)
    → digits_value 10 (ds ++ es) ≡ digits_value 10 ds * 10 ^ length es + digits_value 10 es
value_parts ds es = value_append 0 ds es ∙ value_after (digits_value 10 ds) es

-- the digit 0
abbrev pub is_zero : ℕ → Bool
is_zero d = d == 48

-- digits that are all 0 write 0
pub zeros_value : (ds : List ℕ) → list_all is_zero ds ≡ true → digits_value 10 ds ≡ 0
zeros_value [] zeros = refl
zeros_value (d ∷ ds) zeros =
    let both = and_parts (is_zero d) (list_all is_zero ds) zeros in
    let first : digit_value d ≡ 0 = ap digit_value (eqb-true d 48 both.0) in
    omega (arith, value_cons d ds, zeros_value ds both.1, ap (λ n. n * 10 ^ length ds) first)

-- and only they do
pub value_zeros : (ds : List ℕ) → AllDigits 10 ds → digits_value 10 ds ≡ 0
    → list_all is_zero ds ≡ true
value_zeros [] digits none = refl
value_zeros (d ∷ ds) digits none =
    let value = value_cons d ds in
    let rest : digits_value 10 ds ≡ 0 = omega arith in
    let weight : digit_value d * 1 ≤ digit_value d * 10 ^ length ds =
    mul-le-mul_left (digit_value d) (one-le-pow (length ds) 10 (omega arith)) in
    let byte = digit_byte d digits.0 in
    let first : d ≡ 48 = omega arith in
    rw (eq-eqb d 48 first) (value_zeros ds digits.1 rest)

-- ---- numbers as they are kept

-- one more digit after a number that is kept
capped_step : (n d : ℕ) → capped (capped n * 10 + d) ≡ capped (n * 10 + d)
capped_step n d = omega arith

-- more digits after a number that is kept
pub capped_after : (n : ℕ) (ds : List ℕ)
    → capped (digits_value_after 10 (capped n) ds) ≡ capped (digits_value_after 10 n ds)
capped_after n [] = omega arith
capped_after n (d ∷ ds) =
    sym (capped_after (capped n * 10 + digit_value d) ds)
    ∙
    (ap (λ m. capped (digits_value_after 10 m ds)) (capped_step n (digit_value d))
    ∙ capped_after (n * 10 + digit_value d) ds)

-- the next digit of a text
pub capped_next : (n next : ℕ) (ds : List ℕ) (i : ℕ) → i < length ds
    → next ≡ capped (n * 10 + digit_value (get_or ds i 0))
    → capped (digits_value_after 10 next (drop (i + 1) ds))
    ≡ capped (digits_value_after 10 n (drop i ds))
capped_next n next ds i within is =
    rw (is, drop_more ds i 0 within)
    (capped_after (n * 10 + digit_value (get_or ds i 0)) (drop (i + 1) ds))

-- twenty zeros or more after a number that isn't 0
pub capped_zeros : (n zeros : ℕ) → n ≢ 0 → 19 < zeros → 2 ^ 64 - 1 ≡ capped (n * 10 ^ zeros)
capped_zeros n zeros some many =
    let most : 10 ^ 20 ≤ 10 ^ zeros = pow-le-pow_right (omega arith) many in
    let more : 10 ^ zeros * 1 ≤ 10 ^ zeros * n = mul-le-mul_left (10 ^ zeros) (omega arith) in
    omega arith

-- a number times ten to a power that is kept, less a part of it
pub capped_power : (n by power places : ℕ) → IsKeptShift by power → places < 2 ^ 63
    → capped (n * 10 ^ (by - places)) ≡ capped (n * 10 ^ (power - places))
capped_power zero by power places kept few = omega arith
capped_power (suc n) by power places kept few =
    elim (cases_lt power (2 ^ 64 - 8)) as (λ _.
    capped (suc n * 10 ^ (by - places)) ≡ capped (suc n * 10 ^ (power - places))) [
      | inl small ↦ (
          let same : by ≡ power = omega arith in
          ap (λ e. capped (suc n * 10 ^ (e - places))) same
          )
      | inr large ↦
          sym (capped_zeros (suc n) (by - places) (λ none. omega arith) (omega arith))
          ∙ capped_zeros (suc n) (power - places) (λ none. omega arith) (omega arith)
    ]

-- a number that is kept, times another that isn't 0
pub capped_times : (n m : ℕ) → 1 ≤ m → capped (capped n * m) ≡ capped (n * m)
capped_times n m some = elim (cases_lt n (2 ^ 64)) as (λ _. capped (capped n * m) ≡ capped (n * m)) [
  | inl small ↦ (let same : capped n ≡ n = omega arith in ap (λ k. capped (k * m)) same)
  | inr large ↦ omega (arith, mul-le-mul_left (capped n) some, mul-le-mul_left n some)
]
