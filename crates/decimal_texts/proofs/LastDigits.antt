-- The last digits of a number: how many they are, what they stand for, and how they are spelled behind a 1.
use Rattle.std.proofs.Common.{◌≡◌, ℕ, zero, suc, ◌+◌, ◌*◌, ◌/◌, ◌%◌, ◌^◌, ◌<◌, ◌≤◌, [], ◌∷◌, ◌++◌, length, refl, sym, ap, ◌∙◌, append_assoc, append-nil, length-append, pow-suc, mul_comm, arith}
use Rattle.std.specs.Char.{digit_value}
use Rattle.std.specs.Fmt.{decimal}
use Rattle.std.specs.Str.Parse.{AllDigits, digits_value}
use Rattle.std.proofs.Math.Arith.{mod-mul}
use Rattle.std.proofs.Math.Nat.{div-div-eq-div-mul, div-one}
use Rattle.std.proofs.lemmas.Bool.Decides.{nat_tests}
use Rattle.std.proofs.lemmas.Fmt.{decimal_step, decimal_digit, decimal_is_IsNumeral}
use Rattle.std.proofs.lemmas.Int.Digits.{digits_push, digits_value_push}
use Rattle.solid_model.specs.Limits.{most_decimals}
use Rattle.decimal_texts.specs.Decimals.{last_digits}

-- ---- powers of ten

-- none is 0
pub power_positive : (count : ℕ) → 0 < 10 ^ count
power_positive zero = omega arith
power_positive (suc count) = omega (arith, pow-suc 10 count, power_positive count)

-- those of few decimals are small
pub power_small : (count : ℕ) → count ≤ most_decimals → 10 ^ count ≤ 1000000
power_small zero few = omega arith
power_small (suc zero) few = omega arith
power_small (suc (suc zero)) few = omega arith
power_small (suc (suc (suc zero))) few = omega arith
power_small (suc (suc (suc (suc zero)))) few = omega arith
power_small (suc (suc (suc (suc (suc zero))))) few = omega arith
power_small (suc (suc (suc (suc (suc (suc zero)))))) few = omega arith
power_small (suc (suc (suc (suc (suc (suc (suc count))))))) few = absurd (omega arith)

-- to divide by one is to divide by ten, and by the one before it
pub divided_again : (count n : ℕ) → n / 10 ^ suc count ≡ n / 10 / 10 ^ count
divided_again count n = ap (λ k. n / k) (pow-suc 10 count ∙ mul_comm (10 ^ count) 10) ∙ sym (div-div-eq-div-mul n 10 (10 ^ count))

-- ---- a digit

-- the digit of a number below ten has its value
digit_is : (n : ℕ) → digit_value (48 + n % 10) ≡ n % 10
digit_is n = small (n % 10) (omega arith)
  where
    small : (d : ℕ) → d < 10 → digit_value (48 + d) ≡ d
    small d less = grind (arith, nat_tests)

-- ---- the last digits

-- they are exactly so many
pub length-last_digits : (count n : ℕ) → length (last_digits count n) ≡ count
length-last_digits zero n = refl
length-last_digits (suc count) n =
    omega (arith, length-append (last_digits count (n / 10)) ((48 + n % 10) ∷ []), length-last_digits count (n / 10))

-- and digits
pub all_last_digits : (count n : ℕ) → AllDigits 10 (last_digits count n)
all_last_digits zero n = tt
all_last_digits (suc count) n =
    digits_push 10 (last_digits count (n / 10)) (48 + n % 10) (all_last_digits count (n / 10)) (omega (arith, digit_is n))

-- Behind a 1 they are the digits of a power of ten and what is left of the number when it is divided by that power.
pub behind_one : (count n : ℕ) → count ≤ most_decimals → decimal (10 ^ count + n % 10 ^ count) ≡ 49 ∷ last_digits count n
behind_one zero n few = ap decimal (omega arith) ∙ decimal_digit 1 (omega arith)
behind_one (suc count) n few =
    let p = 10 ^ count in
    let m = 10 ^ suc count + n % 10 ^ suc count in
    let power : 10 ^ suc count ≡ p * 10 = pow-suc 10 count in
    let positive = power_positive count in
    let small = power_small count (omega arith) in
    let left : n % 10 ^ suc count ≡ (n / 10 % p) * 10 + n % 10 = ap (λ k. n % k) power ∙ mod-mul n positive (omega arith) in
    let front : m / 10 ≡ p + n / 10 % p = omega (arith, power, left) in
    let last : m % 10 ≡ n % 10 = omega (arith, power, left) in
    let below : n / 10 % p < p = omega (arith, positive) in
    decimal_step m (omega (arith, power, positive)) (omega (arith, power, small, left, below))
    ∙ (λ t. decimal (front t) ++ (48 + last t) ∷ [])
    ∙ ap (λ ds. ds ++ (48 + n % 10) ∷ []) (behind_one count (n / 10) (omega arith))

-- Behind the digits of what is whole of the number, divided by a power of ten, they are the digits of the number.
pub number_of_digits : (count n : ℕ) → n < 2 ^ 64 → digits_value 10 (decimal (n / 10 ^ count) ++ last_digits count n) ≡ n
number_of_digits zero n small =
    ap (digits_value 10) (append-nil (decimal (n / 1)) ∙ ap decimal (div-one n)) ∙ (decimal_is_IsNumeral n small).1
number_of_digits (suc count) n small =
    let digits = decimal (n / 10 / 10 ^ count) ++ last_digits count (n / 10) in
    let front = number_of_digits count (n / 10) (omega arith) in
    ap (digits_value 10) (ap (λ k. decimal k ++ last_digits (suc count) n) (divided_again count n)
    ∙ sym (append_assoc (decimal (n / 10 / 10 ^ count)) (last_digits count (n / 10)) ((48 + n % 10) ∷ [])))
    ∙ digits_value_push 10 digits (48 + n % 10)
    ∙ omega (arith, front, digit_is n)
