-- The magnitude of a numeral: its point moved by its exponent.
use Rattle.std.proofs.Common.{◌≡◌, ◌≢◌, ◌⊎◌, inl, inr, ℕ, zero, suc, ◌+◌, ◌-◌, ◌*◌, ◌/◌, ◌%◌, ◌^◌, ◌<◌, ◌≤◌, ◌==◌, true, false, cond, List, [], ◌∷◌, ◌++◌, length, ℤ, pos, neg_ℤ, Option, Some, None, option_map, append_assoc, append-nil, min, ne_eqb, subst, refl, sym, ap, ◌∙◌, add-one, arith}
use Rattle.std.specs.Prelude.{◌-ℤ◌}
use Rattle.std.specs.Str.Parse.{AllDigits, digits_value, digits_value_after}
use Rattle.std.proofs.Math.Nat.{mul-le-mul_left, one-le-pow, pow-le-pow_right}
use Rattle.std.proofs.lemmas.Bool.{cases_lt}
use Rattle.std.proofs.lemmas.Int.{ints}
use Rattle.std.proofs.lemmas.Int.Digits.{digits_value-lt}
use Rattle.std.proofs.lemmas.List.{length-append, nil_from_length}
use Rattle.std.proofs.lemmas.Nat.{div-mul-add, mod-mul-add}
use Rattle.dxf_groups.specs.NumeralParts.{capped, IsKeptShift}
use Rattle.dxf_groups.specs.Numerals.{times_power, magnitude_of, with_sign}
use Rattle.dxf_groups.proofs.NumeralDigits.{capped_after, capped_power, capped_times, digits_append, digits_parts, value_append, value_parts}

-- a number divided by ten to a power, where that is whole
abbrev pub divided : ℕ → ℕ → Option ℕ
divided m q = cond (m % 10 ^ q == 0) (Some (m / 10 ^ q)) None

-- a power of ten that isn't above 0 divides
power_down : (m : ℕ) (z : ℤ) (q : ℕ) → z ≡ neg_ℤ (pos q) → times_power m z ≡ divided m q
power_down m z zero is =
    let rest : m % 1 ≡ 0 = omega arith in
    let whole : m / 1 ≡ m * 1 = omega arith in
    rw (is, rest, whole) refl
power_down m z (suc q) is = rw (is, add-one) refl

-- what is divided is a multiple and a rest: it is whole where there's no rest
divided_rest : (w f q : ℕ) → f < 10 ^ q → divided (w * 10 ^ q + f) q ≡ cond (f == 0) (Some w) None
divided_rest w f q less = rw (mod-mul-add w (10 ^ q) f less, div-mul-add w (10 ^ q) f less) refl

-- digits divided by ten to the number of the last of them, or to more where those are all
digits_divided : (ds es : List ℕ) (q : ℕ) → AllDigits 10 es
    → (length es ≡ q) ⊎ ((ds ≡ []) × (length es ≤ q))
    → divided (digits_value 10 (ds ++ es)) q
    ≡ cond (digits_value 10 es == 0) (Some (digits_value 10 ds)) None
digits_divided ds es q digits (inl same) =
    let less : digits_value 10 es < 10 ^ q = rw (← same) (digits_value-lt 10 es digits) in
    let parts : digits_value 10 (ds ++ es) ≡ digits_value 10 ds * 10 ^ q + digits_value 10 es =
    value_parts ds es
    ∙ ap (λ n. digits_value 10 ds * 10 ^ n + digits_value 10 es) same in
    rw parts (divided_rest (digits_value 10 ds) (digits_value 10 es) q less)
digits_divided ds es q digits (inr (none, few)) =
    let less : digits_value 10 es < 10 ^ q =
    omega (arith, digits_value-lt 10 es digits, pow-le-pow_right {n = 10} (omega arith) few) in
    let parts : digits_value 10 (ds ++ es) ≡ digits_value 10 ds * 10 ^ q + digits_value 10 es =
    rw none (omega arith) in
    rw parts (divided_rest (digits_value 10 ds) (digits_value 10 es) q less)

-- the point moved to the left: the magnitude is whole where all the digits after it are 0
magnitude_left : (ds es after : List ℕ) (n : ℕ) → AllDigits 10 es → AllDigits 10 after
    → (length es ≡ n) ⊎ ((ds ≡ []) × (length es ≤ n))
    → magnitude_of (ds ++ es) after (with_sign true n)
    ≡ cond (digits_value 10 (es ++ after) == 0) (Some (digits_value 10 ds)) None
magnitude_left ds es after n digits places fits =
    let q = n + length after in
    let power : (neg_ℤ (pos n) -ℤ pos (length after)) ≡ neg_ℤ (pos q) = omega (arith, ints) in
    let within : (length (es ++ after) ≡ q) ⊎ ((ds ≡ []) × (length (es ++ after) ≤ q)) = elim fits [
      | inl same ↦ inl (omega (arith, length-append es after))
      | inr few ↦ inr (few.0, omega (arith, few.1, length-append es after))
    ] in
    power_down (digits_value 10 ((ds ++ es) ++ after)) (neg_ℤ (pos n) -ℤ pos (length after)) q
    power
    ∙
    (ap (λ xs. divided (digits_value 10 xs) q) (append_assoc ds es after)
    ∙ digits_divided ds (es ++ after) q (digits_append es after digits places) within)

-- the point moved to the right, and not past the digits
right_inside : (before ds es : List ℕ) (n : ℕ) → AllDigits 10 es → length es + n ≡ length (ds ++ es)
    → magnitude_of before (ds ++ es) (with_sign false n)
    ≡ cond (digits_value 10 es == 0) (Some (digits_value 10 (before ++ ds))) None
right_inside before ds es n digits rest =
    let q = length es in
    let power : (pos n -ℤ pos (length (ds ++ es))) ≡ neg_ℤ (pos q) = omega (arith, ints) in
    power_down (digits_value 10 (before ++ (ds ++ es))) (pos n -ℤ pos (length (ds ++ es))) q power
    ∙
    (ap (λ xs. divided (digits_value 10 xs) q) (sym (append_assoc before ds es))
    ∙ digits_divided (before ++ ds) es q digits (inl refl))

-- and past the digits
right_past : (before ds : List ℕ) (n : ℕ) → length ds ≤ n
    → magnitude_of before ds (with_sign false n)
    ≡ Some (digits_value 10 (before ++ ds) * 10 ^ (n - length ds))
right_past before ds n past =
    let power : (pos n -ℤ pos (length ds)) ≡ pos (n - length ds) = omega (arith, ints) in
    ap (times_power (digits_value 10 (before ++ ds))) power

-- the point moved to the right: zeros fill the places past the digits
magnitude_right : (before ds es : List ℕ) (n : ℕ) → AllDigits 10 es
    → length es ≡ length (ds ++ es) - n
    → magnitude_of before (ds ++ es) (with_sign false n)
    ≡ cond (digits_value 10 es == 0)
    (Some (digits_value 10 (before ++ ds) * 10 ^ (n - length (ds ++ es)))) None
magnitude_right before ds [] n digits rest =
    let past : length ds ≤ n = omega (arith, length-append ds []) in
    rw append-nil (right_past before ds n past)
magnitude_right before ds (e ∷ es) n digits rest =
    let value = digits_value 10 (before ++ ds) in
    let inside : length (e ∷ es) + n ≡ length (ds ++ e ∷ es) = omega arith in
    let none : n - length (ds ++ e ∷ es) ≡ 0 = omega arith in
    let same : value ≡ value * 10 ^ (n - length (ds ++ e ∷ es)) = rw none (omega arith) in
    right_inside before ds (e ∷ es) n digits inside
    ∙ ap (λ v. cond (digits_value 10 (e ∷ es) == 0) (Some v) None) same

-- ---- the magnitude as it is read

-- the point moved to the left parts the digits before it in those that stay and those that pass it
module _ (before after whole rest : List ℕ) (by n : ℕ) (split : before ≡ whole ++ rest)
    (stay : length whole ≡ length before - by) (kept : IsKeptShift by n) (few : length before < 2 ^ 63)
    (digits : AllDigits 10 before) (places : AllDigits 10 after) where
  -- the magnitude is that of those that stay, where all others are 0
  left_split : magnitude_of before after (with_sign true n)
      ≡ cond (digits_value 10 (rest ++ after) == 0) (Some (digits_value 10 whole)) None
  left_split =
      let parts = digits_parts whole rest (subst (AllDigits 10) split digits) in
      let total : length before ≡ length whole + length rest =
      ap length split
      ∙ length-append whole rest in
      let fits : (length rest ≡ n) ⊎ ((whole ≡ []) × (length rest ≤ n)) =
      elim (cases_lt n (length before))
      as (λ _. (length rest ≡ n) ⊎ ((whole ≡ []) × (length rest ≤ n))) [
        | inl less ↦ inl (omega arith)
        | inr more ↦ inr (nil_from_length whole (omega arith), omega arith)
      ] in
      ap (λ xs. magnitude_of xs after (with_sign true n)) split
      ∙ magnitude_left whole rest after n parts.1 places fits

  -- so it's read from those that stay, where both lists of others are 0
  pub left_whole : (number : ℕ) → digits_value 10 rest ≡ 0 → digits_value 10 after ≡ 0
      → number ≡ capped (digits_value 10 whole)
      → Some number ≡ option_map capped (magnitude_of before after (with_sign true n))
  left_whole number none_before none_after is =
      let none : digits_value 10 (rest ++ after) ≡ 0 =
      rw (value_parts rest after, none_before, none_after) (omega arith) in
      rw (left_split, none, is) refl

  -- and is not whole where one of them isn't
  pub left_broken : (digits_value 10 rest ≡ 0 → digits_value 10 after ≡ 0 → ⊥)
      → None ≡ option_map capped (magnitude_of before after (with_sign true n))
  left_broken some =
      let weight : digits_value 10 rest * 1 ≤ digits_value 10 rest * 10 ^ length after =
      mul-le-mul_left (digits_value 10 rest) (one-le-pow (length after) 10 (omega arith)) in
      let parts = value_parts rest after in
      let other : digits_value 10 (rest ++ after) ≢ 0 = λ none. some (omega arith) (omega arith) in
      rw (left_split, ne_eqb (digits_value 10 (rest ++ after)) 0 other) refl

-- and to the right it parts the digits after it
module _ (before after whole rest : List ℕ) (by n : ℕ) (split : after ≡ whole ++ rest)
    (pass : length whole ≡ min (length after) by) (kept : IsKeptShift by n)
    (few : length after < 2 ^ 63) (places : AllDigits 10 after) where
  -- the magnitude is that of the digits before it and those that it passes, and of zeros, where the
  -- others are 0
  right_split : magnitude_of before after (with_sign false n)
      ≡ cond (digits_value 10 rest == 0)
      (Some (digits_value 10 (before ++ whole) * 10 ^ (n - length after))) None
  right_split =
      let parts = digits_parts whole rest (subst (AllDigits 10) split places) in
      let total : length after ≡ length whole + length rest =
      ap length split
      ∙ length-append whole rest in
      let left : length rest ≡ length (whole ++ rest) - n =
      omega (arith, length-append whole rest) in
      rw split (magnitude_right before whole rest n parts.1 left)

  -- so it's read from the digits before it, those that it passes, and zeros, where the others are 0
  pub right_whole : (first number magnitude : ℕ) → digits_value 10 rest ≡ 0
      → first ≡ capped (digits_value 10 before)
      → number ≡ capped (digits_value_after 10 first whole)
      → magnitude ≡ capped (number * 10 ^ (by - length after))
      → Some magnitude ≡ option_map capped (magnitude_of before after (with_sign false n))
  right_whole first number magnitude none is_first is_number is_magnitude =
      let value = digits_value 10 (before ++ whole) in
      let zeros = by - length after in
      let read : number ≡ capped value =
      is_number
      ∙
      (ap (λ m. capped (digits_value_after 10 m whole)) is_first
      ∙ (capped_after (digits_value 10 before) whole
      ∙ ap capped (sym (value_append 0 before whole)))) in
      let times : capped (number * 10 ^ zeros) ≡ capped (value * 10 ^ zeros) =
      ap (λ m. capped (m * 10 ^ zeros)) read
      ∙ capped_times value (10 ^ zeros) (one-le-pow zeros 10 (omega arith)) in
      let power : capped (value * 10 ^ zeros) ≡ capped (value * 10 ^ (n - length after)) =
      capped_power value by n (length after) kept few in
      rw (right_split, none) (ap Some (is_magnitude ∙ (times ∙ power)))

  -- and is not whole where they aren't
  pub right_broken : (digits_value 10 rest ≡ 0 → ⊥)
      → None ≡ option_map capped (magnitude_of before after (with_sign false n))
  right_broken some = rw (right_split, ne_eqb (digits_value 10 rest) 0 some) refl
