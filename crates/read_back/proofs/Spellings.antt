-- Numbers as they are printed: their bytes, their lengths, and what is read of them.
use Rattle.std.proofs.Common.{◌≡◌, ◌⊎◌, ℕ, zero, suc, ◌*◌, ◌/◌, ◌^◌, ◌<◌, ◌≤◌, ◌&&◌, Bool, true, false, List, [], ◌∷◌, ◌++◌, length, ℤ, pos, negsuc, ◌+ℤ◌, ◌-ℤ◌, Some, Ok, inl, inr, refl, sym, ap, ◌∙◌, append_assoc, append-nil, length-append, div-one, div-le_self, le-leb, codes, arith}
use Rattle.std.specs.Fmt.{decimal}
use Rattle.std.specs.Str.Parse.{AllDigits}
use Rattle.std.proofs.lemmas.Fmt.{decimal_is_IsNumeral}
use Rattle.std.proofs.lemmas.Int.{ints}
use Rattle.std.proofs.lemmas.List.Folds.{list_all-append}
use Rattle.decimal_texts.specs.Decimals.{last_digits, pointed_text, decimal_text}
use Rattle.decimal_texts.proofs.LastDigits.{length-last_digits, all_last_digits, number_of_digits}
use Rattle.decimal_texts.proofs.Lengths.{decimal_length}
use Rattle.solid_model.specs.Limits.{farthest_on_sheet, most_decimals}
use Rattle.solid_model.specs.Line.{IsNear}
use Rattle.dxf_groups.specs.Numerals.{IsNumeral, Numeral, SpellsDigits, SpellsSign, scaled_of, times_power, value_or_fault, with_sign, within_reach}
use Rattle.dxf_groups.proofs.NumeralDigits.{digit_byte}
use Rattle.dxf_groups.proofs.NumeralGrammar.{spelled_is_read}
use Rattle.read_back.proofs.TextPieces.{are_graphic, is_graphic}

-- ---- what is graphic

-- digits are
digits_are_graphic : (ds : List ℕ) → AllDigits 10 ds → are_graphic ds ≡ true
digits_are_graphic [] digits = refl
digits_are_graphic (d ∷ ds) digits =
    let byte = digit_byte d digits.0 in
    rw (le-leb 33 d (omega (arith, byte.least))) (digits_are_graphic ds digits.1)

-- and so is a text of two parts that are
both_graphic : (a b : List ℕ) → are_graphic a ≡ true → are_graphic b ≡ true → are_graphic (a ++ b) ≡ true
both_graphic a b first second = list_all-append is_graphic a b ∙ (λ t. first t && second t)

-- the digits of a number
decimal_is_graphic : (n : ℕ) → n < 2 ^ 64 → are_graphic (decimal n) ≡ true
decimal_is_graphic n small = digits_are_graphic (decimal n) (decimal_is_IsNumeral n small).0.1

-- a number with a point
pointed_is_graphic : (decimals n : ℕ) → n < 2 ^ 64 → are_graphic (pointed_text decimals n) ≡ true
pointed_is_graphic decimals n small =
    both_graphic (decimal (n / 10 ^ decimals) ++ codes ".") (last_digits decimals n)
    (both_graphic (decimal (n / 10 ^ decimals)) (codes ".")
    (decimal_is_graphic (n / 10 ^ decimals) (omega (arith, div-le_self n (10 ^ decimals)))) refl)
    (digits_are_graphic (last_digits decimals n) (all_last_digits decimals n))

-- a near number as it is printed
pub printed_is_graphic : (decimals : ℕ) (z : ℤ) → IsNear z → are_graphic (decimal_text decimals z) ≡ true
printed_is_graphic zero (pos n) near = decimal_is_graphic n (omega (arith, ints))
printed_is_graphic zero (negsuc n) near = decimal_is_graphic (suc n) (omega (arith, ints))
printed_is_graphic (suc d) (pos n) near = pointed_is_graphic (suc d) n (omega (arith, ints))
printed_is_graphic (suc d) (negsuc n) near =
    both_graphic (codes "-") (pointed_text (suc d) (suc n)) refl
    (pointed_is_graphic (suc d) (suc n) (omega (arith, ints)))

-- ---- how long it is

-- it has at most twelve bytes
pub printed_length : (decimals : ℕ) (z : ℤ) → decimals ≤ most_decimals → IsNear z
    → length (decimal_text decimals z) ≤ 12
printed_length decimals (pos n) few near =
    decimal_length decimals (pos n) (omega arith) (omega (arith, ints))
printed_length decimals (negsuc n) few near =
    decimal_length decimals (negsuc n) (omega arith) (omega (arith, ints))

-- ---- what is read of it

-- a sign, and the digits of a number with so many of them behind the point
abbrev signed : Bool → ℕ → ℕ → Numeral
signed negative decimals m = record {
  negative = negative;
  before = decimal (m / 10 ^ decimals);
  after = last_digits decimals m;
  exponent = pos 0;
}

-- their text, without the sign
abbrev unsigned_text : ℕ → ℕ → List ℕ
unsigned_text zero m = decimal m
unsigned_text (suc d) m = pointed_text (suc d) m

-- they spell these digits
digits_are_spelled : (decimals m : ℕ) → m < 2 ^ 64
    → SpellsDigits (decimal (m / 10 ^ decimals)) (last_digits decimals m) (unsigned_text decimals m)
digits_are_spelled decimals m small =
    let before : List ℕ = decimal (m / 10 ^ decimals) in
    let whole =
    decimal_is_IsNumeral (m / 10 ^ decimals) (omega (arith, div-le_self m (10 ^ decimals))) in
    record {
      digits_before = whole.0.1;
      digits_after = all_last_digits decimals m;
      not_empty = λ none.
          omega (
            arith,
            whole.0.0,
            length-append before (last_digits decimals m),
            ap length none,
          );
      spelled = by decimals;
    }
  where
    by : (d : ℕ) → (unsigned_text d m ≡ decimal (m / 10 ^ d) ++ (codes "." ++ last_digits d m))
        ⊎ ((last_digits d m ≡ []) × (unsigned_text d m ≡ decimal (m / 10 ^ d)))
    by zero = inr (refl, sym (ap decimal (div-one m)))
    by (suc d) = inl (append_assoc (decimal (m / 10 ^ suc d)) (codes ".") (last_digits (suc d) m))

-- so, behind a sign, they are a numeral
signed_is_spelled : (negative : Bool) (sign : List ℕ) (decimals m : ℕ) → m < 2 ^ 64
    → SpellsSign negative sign
    → IsNumeral (sign ++ unsigned_text decimals m) (signed negative decimals m)
signed_is_spelled negative sign decimals m small spells = record {
  sign = sign;
  digits = unsigned_text decimals m;
  exponent = [];
  signed = spells;
  has_digits = digits_are_spelled decimals m small;
  has_exponent = inl (refl, refl);
  spelled = ap (λ text. sign ++ text) (sym (append-nil (unsigned_text decimals m)));
}

-- a magnitude that is near stands for itself
reached : (negative : Bool) (m n : ℕ) → n ≡ m → m ≤ farthest_on_sheet
    → within_reach negative (Some n) ≡ Ok (with_sign negative m)
reached negative m n same near = rw (same, le-leb m farthest_on_sheet near) refl

-- and is read so with as many decimals
signed_is_read : (negative : Bool) (sign : List ℕ) (decimals m : ℕ) → m ≤ farthest_on_sheet
    → SpellsSign negative sign
    → scaled_of decimals (sign ++ unsigned_text decimals m) ≡ Ok (with_sign negative m)
unfolding scaled_of
signed_is_read negative sign decimals m near spells =
    let value = number_of_digits decimals m (omega arith) in
    let power : (pos 0 +ℤ pos decimals) -ℤ pos (length (last_digits decimals m)) ≡ pos 0 =
    omega (arith, ints, length-last_digits decimals m) in
    ap (value_or_fault decimals) (spelled_is_read (sign ++ unsigned_text decimals m)
    (signed negative decimals m) (signed_is_spelled negative sign decimals m (omega arith) spells))
    ∙ (λ t. within_reach negative (times_power (value t) (power t)))
    ∙ reached negative m (m * 1) (omega arith) near

-- a near number, as it is printed with so many decimals, is read as that number with as many
pub printed_is_read : (decimals : ℕ) (z : ℤ) → IsNear z
    → scaled_of decimals (decimal_text decimals z) ≡ Ok z
printed_is_read zero (pos n) near = signed_is_read false [] 0 n (omega (arith, ints)) (inl refl)
printed_is_read zero (negsuc n) near =
    signed_is_read true (codes "-") 0 (suc n) (omega (arith, ints)) refl
printed_is_read (suc d) (pos n) near =
    signed_is_read false [] (suc d) n (omega (arith, ints)) (inl refl)
printed_is_read (suc d) (negsuc n) near =
    signed_is_read true (codes "-") (suc d) (suc n) (omega (arith, ints)) refl
