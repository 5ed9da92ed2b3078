-- A numeral by its parts.
use Rattle.std.proofs.Common.{◌≡◌, ◌≢◌, ℕ, Bool, List, [], ◌∷◌, length, ℤ, pos, Some, None, Err, refl, ap}
use Rattle.std.specs.Prelude.{◌+ℤ◌}
use Rattle.std.specs.Str.Parse.{digits_value, starts_with_minus, without_leading_sign}
use Rattle.std.proofs.lemmas.List.{nil_from_length}
use Rattle.dxf_groups.specs.Numerals.{exponent_of, leading_digits, leading_places, magnitude_of, marked_exponent, numeral_of, numeral_with, past_digits, past_places, signed_number, value_or_fault, scaled_of, with_sign, within_reach}
use Rattle.dxf_groups.specs.declared.numerals.NumeralFault.TheVariants.{BadNumber}

-- a numeral of parts with a digit
pub has_digit : (negative : Bool) (before after : List ℕ) (e : ℤ)
    → (length before ≡ 0 → length after ≡ 0 → ⊥)
    → numeral_with negative before after (Some e)
    ≡ Some (record { negative = negative; before = before; after = after; exponent = e })
has_digit negative [] [] e some = absurd (some refl refl)
has_digit negative [] (c ∷ cs) e some = refl
has_digit negative (b ∷ bs) after e some = refl

-- a text's parts, read one after the other: whether its sign is a minus, the text after it, the digits
-- there and the text after them, the places there and the text after them
module _ (decimals : ℕ) (text : List ℕ) (negative : Bool)
    (unsigned before rest after last : List ℕ)
    (is_negative : negative ≡ starts_with_minus text)
    (is_unsigned : unsigned ≡ without_leading_sign text)
    (is_before : before ≡ leading_digits unsigned) (is_rest : rest ≡ past_digits unsigned)
    (is_after : after ≡ leading_places rest) (is_last : last ≡ past_places rest) where
  -- the text stands for what its parts do
  scaled_by_parts : scaled_of decimals text
      ≡ value_or_fault decimals (numeral_with negative before after (exponent_of last))
  unfolding scaled_of numeral_of
  scaled_by_parts = rw (is_negative, is_before, is_after, is_last, is_rest, is_unsigned) refl

  -- without an exponent it is no numeral
  pub no_exponent : exponent_of last ≡ None → Err BadNumber ≡ scaled_of decimals text
  no_exponent none = rw (scaled_by_parts, none) refl

  -- without a digit it is no numeral
  pub no_digit : (e : ℤ) → exponent_of last ≡ Some e → length before ≡ 0 → length after ≡ 0
      → Err BadNumber ≡ scaled_of decimals text
  no_digit e is none_before none_after =
      rw (scaled_by_parts, is, nil_from_length before none_before, nil_from_length after none_after)
      refl

  -- else it has its sign, and the magnitude of its digits and its exponent
  pub with_digit : (e : ℤ) → exponent_of last ≡ Some e → (length before ≡ 0 → length after ≡ 0 → ⊥)
      → scaled_of decimals text ≡ within_reach negative (magnitude_of before after (e +ℤ pos decimals))
  with_digit e is some =
      rw (scaled_by_parts, is) (ap (value_or_fault decimals) (has_digit negative before after e some))

-- a digit or more, and nothing after them, are a number
pub signed_digits : (negative : Bool) (ds rest : List ℕ) → length ds ≢ 0 → length rest ≡ 0
    → signed_number negative ds rest ≡ Some (with_sign negative (digits_value 10 ds))
signed_digits negative [] rest some none = absurd (some refl)
signed_digits negative (d ∷ ds) rest some none = rw (nil_from_length rest none) refl

-- a text's marked exponent is what its parts stand for
pub marked_by_parts : (text : List ℕ) (negative : Bool) (unsigned digits rest : List ℕ)
    → negative ≡ starts_with_minus text → unsigned ≡ without_leading_sign text
    → digits ≡ leading_digits unsigned → rest ≡ past_digits unsigned
    → marked_exponent text ≡ signed_number negative digits rest
marked_by_parts text negative unsigned digits rest is_negative is_unsigned is_digits is_rest =
    rw (is_negative, is_digits, is_rest, is_unsigned) refl
