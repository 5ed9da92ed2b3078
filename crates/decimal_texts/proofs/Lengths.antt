-- The lengths of printed numbers.
use Rattle.std.proofs.Common.{◌≡◌, ℕ, zero, suc, ◌+◌, ◌-◌, ◌*◌, ◌/◌, ◌^◌, ◌<◌, ◌≤◌, ◌++◌, length, ℤ, pos, negsuc, sym, ap, subst, unsigned_abs, codes, length-append, pow-suc, div-le_self, div-one, arith}
use Rattle.std.specs.Fmt.{decimal}
use Rattle.std.proofs.lemmas.Fmt.{length-decimal-le, length_signed_le}
use Rattle.decimal_texts.specs.Decimals.{last_digits, pointed_text, decimal_text}
use Rattle.decimal_texts.proofs.LastDigits.{divided_again, length-last_digits}

-- divided by a power of ten, a number loses as many digits
front_below : (decimals places n : ℕ) → n < 10 ^ (places + decimals) → n / 10 ^ decimals < 10 ^ places
front_below zero places n small =
    let whole : n / 10 ^ 0 ≡ n = div-one n in
    let same : places + 0 ≡ places = omega arith in
    omega (arith, whole, ap (λ k. 10 ^ k) same)
front_below (suc decimals) places n small =
    let next : places + suc decimals ≡ suc (places + decimals) = omega arith in
    let less : n < 10 ^ (places + decimals) * 10 = omega (arith, ap (λ k. 10 ^ k) next, pow-suc 10 (places + decimals)) in
    let front = front_below decimals places (n / 10) (omega arith) in
    omega (arith, divided_again decimals n, front)

-- so a number of some digits takes one byte more with a point
pub pointed_length : (decimals places n : ℕ) → 0 < places → n < 10 ^ (places + decimals) → n < 2 ^ 64
    → length (pointed_text decimals n) ≤ places + decimals + 1
pointed_length decimals places n some small fits =
    let front = front_below decimals places n small in
    let whole = length-decimal-le places (n / 10 ^ decimals) some front (omega (arith, div-le_self n (10 ^ decimals))) in
    omega (
      arith,
      whole,
      length-append (decimal (n / 10 ^ decimals) ++ codes ".") (last_digits decimals n),
      length-append (decimal (n / 10 ^ decimals)) (codes "."),
      length-last_digits decimals n,
    )

-- A number of at most ten digits that is divided by ten to a power below the tenth takes at most twelve bytes.
pub decimal_length : (decimals : ℕ) (z : ℤ) → decimals < 10 → unsigned_abs z + 1 < 10 ^ 10 → length (decimal_text decimals z) ≤ 12
decimal_length zero (pos n) few small = let short = length_signed_le 10 (pos n) (omega arith) (omega arith) in omega (arith, short)
decimal_length zero (negsuc n) few small = let short = length_signed_le 10 (negsuc n) (omega arith) (omega arith) in omega (arith, short)
decimal_length (suc d) (pos n) few small =
    let places : 9 - d + suc d ≡ 10 = omega arith in
    let short = pointed_length (suc d) (9 - d) n (omega arith) (subst (λ k. n < 10 ^ k) (sym places) (omega arith)) (omega arith) in
    omega (arith, short)
decimal_length (suc d) (negsuc n) few small =
    let places : 9 - d + suc d ≡ 10 = omega arith in
    let short = pointed_length (suc d) (9 - d) (suc n) (omega arith) (subst (λ k. suc n < 10 ^ k) (sym places) (omega arith)) (omega arith) in
    omega (arith, short, length-append (codes "-") (pointed_text (suc d) (suc n)))
