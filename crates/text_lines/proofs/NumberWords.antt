-- Numbers are read as they are written.
use Rattle.std.proofs.Common.{◌≡◌, ◌==◌, ◌&&◌, ◌||◌, not, Bool, true, false, ℕ, zero, suc, ◌+◌, ◌*◌, ◌-◌, ◌<◌, ◌≤◌, nat_lt, nat_le, List, [], ◌∷◌, length, take, get_or, Some, None, if◌then◌else◌, refl, ap, sym, subst, ◌∙◌, arith}
use Rattle.std.specs.Fmt.{decimal}
use Rattle.std.specs.Str.{all_ascii_digits}
use Rattle.std.specs.Char.{is_ascii_digit}
use Rattle.std.proofs.lemmas.Bool.{and_parts, and_from, lt-ltb, le-leb, ltb-true, leb-true, eqb-true, eq-eqb, false≢true}
use Rattle.std.proofs.lemmas.Option.{none-some, same_Some}
use Rattle.std.proofs.lemmas.Fmt.{digits_decimal, digits_value-decimal, decimal-digits_value, length-decimal-le, decimal_nonempty, first_decimal, decimal_digit}
use Rattle.std.proofs.lemmas.Str.Parse.{IsNumeralModel, numerals_by_fold, tells_all_ascii_digits, digits_value_short}
use Rattle.text_lines.specs.Numbers.{value_behind, is_number_word, number_of_word}

pub own : IsNumeralModel (λ ds. all_ascii_digits ds ≡ true) (value_behind 0)
own = numerals_by_fold (λ ds. all_ascii_digits ds ≡ true) tells_all_ascii_digits value_behind (record { empty = λ n. refl; more = λ n c cs h. refl })

if_some : (b : Bool) (m n : ℕ) → (if b then Some m else None) ≡ Some n → (b ≡ true) × (m ≡ n)
if_some true m n e = (refl, same_Some m n e)
if_some false m n e = absurd (none-some n e)

leading : (a b : Bool) → (not a || b) ≡ true → a ≡ true → b ≡ true
leading true b e f = e
leading false b e f = absurd (false≢true f)

no_leading : (a b : Bool) → (a ≡ true → b ≡ true) → (not a || b) ≡ true
no_leading true b h = h refl
no_leading false b h = refl

-- what is read is written so
pub number_written : (w : List ℕ) (n : ℕ) → number_of_word w ≡ Some n → (w ≡ decimal n) × (n < 10000000000)
number_written w n e =
    let (is, value) = if_some (is_number_word w) (value_behind 0 w) n e in
    let a = and_parts (all_ascii_digits w) _ is in
    let b = and_parts (nat_lt 0 (length w)) _ a.1 in
    let c = and_parts (nat_le (length w) 10) _ b.1 in
    let short : value_behind 0 w < 10000000000 = digits_value_short own w 10 a.0 (leb-true (length w) 10 c.0) in (
      sym (decimal-digits_value own w a.0 (ltb-true 0 (length w) b.0) (λ z. eqb-true (length w) 1 (leading (get_or w 0 0 == 48) (length w == 1) c.1 (eq-eqb (get_or w 0 0) 48 z))) (omega (arith, short))) ∙ ap decimal value,
      subst (λ m. m < 10000000000) value short,
    )

-- and what is written is read
pub number_read : (n : ℕ) → n < 10000000000 → number_of_word (decimal n) ≡ Some n
number_read n l = ap (λ b. if b then Some (value_behind 0 (decimal n)) else None) is ∙ ap Some (digits_value-decimal own n (omega (arith, l)))
  where
    lone : get_or (decimal n) 0 0 ≡ 48 → length (decimal n) ≡ 1
    lone z = by n refl
      where
        by : (m : ℕ) → m ≡ n → length (decimal n) ≡ 1
        by zero e = subst (λ k. length (decimal k) ≡ 1) e (ap length (decimal_digit 0 (omega arith)))
        by (suc m) e = absurd (let f = first_decimal n (omega (arith, e)) (omega (arith, l)) in omega (arith, f, z))

    is : is_number_word (decimal n) ≡ true
    is = and_from _ _ (digits_decimal own n (omega (arith, l)))
        (and_from _ _ (lt-ltb 0 (length (decimal n)) (decimal_nonempty n (omega (arith, l))))
        (and_from _ _ (le-leb (length (decimal n)) 10 (length-decimal-le 10 n (omega arith) l (omega (arith, l))))
        (no_leading (get_or (decimal n) 0 0 == 48) (length (decimal n) == 1) (λ z. eq-eqb (length (decimal n)) 1 (lone (eqb-true (get_or (decimal n) 0 0) 48 z))))))

-- ---- digit by digit

pub read_take : (w : List ℕ) (i n : ℕ) → i < length w → value_behind n (take (i + 1) w) ≡ value_behind n (take i w) * 10 + (get_or w i 0 - 48)
read_take [] i n l = absurd (omega (arith, l))
read_take (c ∷ cs) zero n l = refl
read_take (c ∷ cs) (suc i) n l = ap (λ k. value_behind n (take k (c ∷ cs))) (let h : suc i + 1 ≡ suc (i + 1) = omega arith in h) ∙ read_take cs i (n * 10 + (c - 48)) (omega (arith, l))

pub digits_take : (w : List ℕ) (i : ℕ) → i < length w → all_ascii_digits (take i w) ≡ true → is_ascii_digit (get_or w i 0) ≡ true → all_ascii_digits (take (i + 1) w) ≡ true
digits_take [] i l h d = absurd (omega (arith, l))
digits_take (c ∷ cs) zero l h d = and_from (is_ascii_digit c) true d refl
digits_take (c ∷ cs) (suc i) l h d = ap (λ k. all_ascii_digits (take k (c ∷ cs))) (let e : suc i + 1 ≡ suc (i + 1) = omega arith in e)
    ∙ and_from (is_ascii_digit c) _ (and_parts (is_ascii_digit c) _ h).0 (digits_take cs i (omega (arith, l)) (and_parts (is_ascii_digit c) _ h).1 d)

no_digit : (w : List ℕ) (i : ℕ) → i < length w → is_ascii_digit (get_or w i 0) ≡ false → all_ascii_digits w ≡ true → ⊥
no_digit [] i l f h = omega (arith, l)
no_digit (c ∷ cs) zero l f h = false≢true (sym f ∙ (and_parts (is_ascii_digit c) _ h).0)
no_digit (c ∷ cs) (suc i) l f h = no_digit cs i (omega (arith, l)) f (and_parts (is_ascii_digit c) _ h).1

pub no_number : (w : List ℕ) (i : ℕ) → i < length w → is_ascii_digit (get_or w i 0) ≡ false → None ≡ number_of_word w
no_number w i l f = by (all_ascii_digits w) refl
  where
    by : (b : Bool) → all_ascii_digits w ≡ b → None ≡ number_of_word w
    by true h = absurd (no_digit w i l f h)
    by false h = ap (λ b. if b && (nat_lt 0 (length w) && (nat_le (length w) 10 && (not (get_or w 0 0 == 48) || (length w == 1)))) then Some (value_behind 0 w) else None) (sym h)

pub short_value : (w : List ℕ) (i : ℕ) → length w ≤ 10 → all_ascii_digits (take i w) ≡ true → value_behind 0 (take i w) < 10000000000
short_value w i l h = digits_value_short own (take i w) 10 h (let m = length-take-le i w in omega (arith, l, m))
  where
    length-take-le : (i : ℕ) (xs : List ℕ) → length (take i xs) ≤ length xs
    length-take-le zero xs = omega arith
    length-take-le (suc i) [] = omega arith
    length-take-le (suc i) (x ∷ xs) = let h = length-take-le i xs in omega (arith, h)
