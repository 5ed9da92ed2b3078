-- The grammar of numerals: what is read is spelled so, and what is spelled so is read.
use Rattle.std.proofs.Common.{◌≡◌, ◌≢◌, ◌⊎◌, inl, inr, ℕ, ◌==◌, ◌||◌, Bool, true, false, cond, List, [], ◌∷◌, ◌++◌, length, drop, get_or, ℤ, Option, Some, None, append_assoc, append-nil, ne_eqb, refl, sym, ap, ap₂, subst, ◌∙◌, arith}
use Rattle.std.specs.Char.{is_digit}
use Rattle.std.specs.Str.Parse.{AllDigits, digits_value, starts_with_minus, without_leading_sign}
use Rattle.std.proofs.lemmas.Bool.{eqb-true}
use Rattle.std.proofs.lemmas.Bool.Decides.{nat_tests}
use Rattle.std.proofs.lemmas.List.{nil_from_length}
use Rattle.dxf_groups.specs.Numerals.{IsNumeral, Numeral, SpellsDigits, SpellsExponent, SpellsPower, SpellsSign, exponent_of, leading_digits, leading_places, marked_exponent, numeral_of, numeral_with, past_digits, past_places, signed_number, with_sign}
use Rattle.dxf_groups.proofs.NumeralDigits.{digit_byte, leading_all_digits, leading_and_past, is_digit_true}
use Rattle.dxf_groups.proofs.NumeralReading.{has_digit, marked_by_parts, signed_digits}

-- ---- what is read is spelled so

-- a text is a sign, a minus or not, and a rest
record BeginsWithSign (minus : Bool) (rest bs : List ℕ) : Type 0 where
  sign : List ℕ
  signed : SpellsSign minus sign
  split : bs ≡ sign ++ rest

-- a text begins with the sign that is read
sign_spelled : (bs : List ℕ) → BeginsWithSign (starts_with_minus bs) (without_leading_sign bs) bs
sign_spelled [] = record { sign = []; signed = inl refl; split = refl }
sign_spelled (b ∷ bs) = at (b == 45) (b == 43) refl refl
  where
    at : (minus plus : Bool) → (b == 45) ≡ minus → (b == 43) ≡ plus
        → BeginsWithSign minus (cond minus bs (drop (cond plus 1 0) (b ∷ bs))) (b ∷ bs)
    at true plus is_minus is_plus =
        record { sign = 45 ∷ []; signed = refl; split = ap (λ c. c ∷ bs) (eqb-true b 45 is_minus) }
    at false true is_minus is_plus =
        record {
          sign =
              43 ∷ [];
          signed = inr refl;
          split = ap (λ c. c ∷ bs) (eqb-true b 43 is_plus);
        }
    at false false is_minus is_plus = record { sign = []; signed = inl refl; split = refl }

-- what follows the digits before a point begins with the point, or there are no places
places_spelled : (bs : List ℕ)
    → (bs ≡ 46 ∷ (leading_places bs ++ past_places bs))
    ⊎ ((leading_places bs ≡ []) × (past_places bs ≡ bs))
places_spelled [] = inr (refl, refl)
places_spelled (b ∷ bs) = at (b == 46) refl
  where
    at : (u : Bool) → (b == 46) ≡ u
        → (b ∷ bs ≡ 46 ∷ (cond u (leading_digits bs) [] ++ cond u (past_digits bs) (b ∷ bs)))
        ⊎ ((cond u (leading_digits bs) [] ≡ []) × (cond u (past_digits bs) (b ∷ bs) ≡ b ∷ bs))
    at true is = inl (ap₂ ◌∷◌ (eqb-true b 46 is) (sym (leading_and_past bs)))
    at false is = inr (refl, refl)

-- the places are digits
places_all_digits : (bs : List ℕ) → AllDigits 10 (leading_places bs)
places_all_digits [] = tt
places_all_digits (b ∷ bs) = at (b == 46)
  where
    at : (u : Bool) → AllDigits 10 (cond u (leading_digits bs) [])
    at true = leading_all_digits bs
    at false = tt

-- a number that a sign and digits stand for has a digit, and nothing after the digits
record IsSigned (negative : Bool) (ds rest : List ℕ) (e : ℤ) : Type 0 where
  not_empty : ds ≢ []
  nothing_after : rest ≡ []
  value : e ≡ with_sign negative (digits_value 10 ds)

signed_spelled : (negative : Bool) (ds rest : List ℕ) (e : ℤ)
    → signed_number negative ds rest ≡ Some e → IsSigned negative ds rest e
signed_spelled negative [] rest e is = absurd cc
signed_spelled negative (d ∷ ds) [] e is =
    record { not_empty = λ none. cc; nothing_after = refl; value = cc }
signed_spelled negative (d ∷ ds) (r ∷ rest) e is = absurd cc

-- the mark that is read
mark_spelled : (b : ℕ) → (b == 69 || b == 101) ≡ true → (b ∷ [] ≡ 69 ∷ []) ⊎ (b ∷ [] ≡ 101 ∷ [])
mark_spelled b is =
    let known : (b ≡ 69) ⊎ (b ≡ 101) = grind (arith, nat_tests) in
    elim known [ inl large ↦ inl (ap (λ c. c ∷ []) large) | inr small ↦ inr (ap (λ c. c ∷ []) small) ]

-- the exponent that is read
exponent_spelled : (bs : List ℕ) (e : ℤ) → exponent_of bs ≡ Some e → SpellsExponent e bs
exponent_spelled [] e is = inl (cc, refl)
exponent_spelled (b ∷ bs) e is = inr (at (b == 69 || b == 101) refl is)
  where
    marked : (bs : List ℕ) → marked_exponent bs ≡ Some e
        → ((b ∷ [] ≡ 69 ∷ []) ⊎ (b ∷ [] ≡ 101 ∷ [])) → SpellsPower e (b ∷ bs)
    marked bs is mark =
        let digits = without_leading_sign bs in
        let number =
        signed_spelled (starts_with_minus bs) (leading_digits digits) (past_digits digits) e is in
        let sign = sign_spelled bs in
        let all : leading_digits digits ≡ digits =
        sym (append-nil (leading_digits digits))
        ∙ (ap (λ xs. leading_digits digits ++ xs) (sym number.nothing_after)
        ∙ leading_and_past digits) in
        record {
          mark = b ∷ [];
          negative = starts_with_minus bs;
          sign = sign.sign;
          digits = leading_digits digits;
          marked = mark;
          signed = sign.signed;
          all_digits = leading_all_digits digits;
          not_empty = number.not_empty;
          value = number.value;
          spelled = ap (λ xs. b ∷ xs) (sign.split ∙ ap (λ xs. sign.sign ++ xs) (sym all));
        }

    at : (u : Bool) → (b == 69 || b == 101) ≡ u → cond u (marked_exponent bs) None ≡ Some e
        → SpellsPower e (b ∷ bs)
    at true mark is = marked bs is (mark_spelled b mark)
    at false mark is = cc

-- a numeral of parts has a digit
record HasParts (negative : Bool) (before after : List ℕ) (e : Option ℤ) (n : Numeral) : Type 0 where
  not_empty : before ++ after ≢ []
  is_negative : n.negative ≡ negative
  is_before : n.before ≡ before
  is_after : n.after ≡ after
  is_exponent : e ≡ Some n.exponent

parts_known : (negative : Bool) (before after : List ℕ) (e : Option ℤ) (n : Numeral)
    → numeral_with negative before after e ≡ Some n → HasParts negative before after e n
parts_known negative before after None n is = absurd cc
parts_known negative [] [] (Some e) n is = absurd cc
parts_known negative [] (c ∷ cs) (Some e) n is = record {
  not_empty = λ none. cc;
  is_negative = cc;
  is_before = cc;
  is_after = cc;
  is_exponent = cc;
}
parts_known negative (b ∷ bs) after (Some e) n is = record {
  not_empty = λ none. cc;
  is_negative = cc;
  is_before = cc;
  is_after = cc;
  is_exponent = cc;
}

-- a text is digits before and after a point, and a rest
record BeginsWithDigits (before after rest bs : List ℕ) : Type 0 where
  digits : List ℕ
  spelled : SpellsDigits before after digits
  split : bs ≡ digits ++ rest

-- the digits that are read, with their point
digits_spelled : (bs : List ℕ) → leading_digits bs ++ leading_places (past_digits bs) ≢ []
    → BeginsWithDigits (leading_digits bs) (leading_places (past_digits bs))
    (past_places (past_digits bs)) bs
digits_spelled bs some =
    let before = leading_digits bs in
    let rest = past_digits bs in
    let after = leading_places rest in
    let last = past_places rest in
    let all_before = leading_all_digits bs in
    let all_after = places_all_digits rest in
    let split : bs ≡ before ++ rest = sym (leading_and_past bs) in
    elim (places_spelled rest) [
      | inl point ↦ record {
        digits = before ++ 46 ∷ after;
        spelled = record {
          digits_before = all_before;
          digits_after = all_after;
          not_empty = some;
          spelled = inl refl;
        };
        split =
            split ∙ (ap (λ xs. before ++ xs) point ∙ sym (append_assoc before (46 ∷ after) last));
      }
      | inr none ↦ record {
        digits = before;
        spelled = record {
          digits_before = all_before;
          digits_after = all_after;
          not_empty = some;
          spelled = inr (none.0, refl);
        };
        split = split ∙ ap (λ xs. before ++ xs) (sym none.1);
      }
    ]

-- the numeral that is read
pub read_is_spelled : (text : List ℕ) (n : Numeral) → numeral_of text ≡ Some n → IsNumeral text n
unfolding numeral_of
read_is_spelled text n is =
    let unsigned = without_leading_sign text in
    let rest = past_digits unsigned in
    let parts =
    parts_known (starts_with_minus text) (leading_digits unsigned) (leading_places rest)
    (exponent_of (past_places rest)) n is in
    let sign = sign_spelled text in
    let begins = digits_spelled unsigned parts.not_empty in
    let has_after : SpellsDigits (leading_digits unsigned) n.after begins.digits =
    subst (λ bs. SpellsDigits (leading_digits unsigned) bs begins.digits) (sym parts.is_after)
    begins.spelled in
    record {
      sign = sign.sign;
      digits = begins.digits;
      exponent = past_places rest;
      signed = subst (λ u. SpellsSign u sign.sign) (sym parts.is_negative) sign.signed;
      has_digits =
          subst (λ bs. SpellsDigits bs n.after begins.digits) (sym parts.is_before) has_after;
      has_exponent = exponent_spelled (past_places rest) n.exponent parts.is_exponent;
      spelled = sign.split ∙ ap (λ xs. sign.sign ++ xs) begins.split;
    }

-- ---- what is spelled so is read

-- a text's first byte, or 0, is no sign
abbrev IsUnsigned : List ℕ → Type 0
IsUnsigned bs = (get_or bs 0 0 == 45 ≡ false) × (get_or bs 0 0 == 43 ≡ false)

-- a sign is read where no other follows
sign_read : (negative : Bool) (sign bs : List ℕ) → SpellsSign negative sign → IsUnsigned bs
    → (starts_with_minus (sign ++ bs) ≡ negative) × (without_leading_sign (sign ++ bs) ≡ bs)
sign_read true sign bs spelled unsigned = rw spelled (refl, refl)
sign_read false sign bs (inl none) unsigned = rw none (unsigned.0, rw (unsigned.0, unsigned.1) refl)
sign_read false sign bs (inr plus) unsigned = rw plus (refl, refl)

-- digits begin with no sign
digits_unsigned : (ds rest : List ℕ) → AllDigits 10 ds → ds ≢ [] → IsUnsigned (ds ++ rest)
digits_unsigned [] rest digits some = absurd (some refl)
digits_unsigned (d ∷ ds) rest digits some =
    let byte = digit_byte d digits.0 in
    (ne_eqb d 45 (λ e. omega arith), ne_eqb d 43 (λ e. omega arith))

-- digits are read up to what is none
leading_read : (ds rest : List ℕ) → AllDigits 10 ds → is_digit (get_or rest 0 0) 10 ≡ false
    → (leading_digits (ds ++ rest) ≡ ds) × (past_digits (ds ++ rest) ≡ rest)
leading_read [] [] digits other = (refl, refl)
leading_read [] (b ∷ bs) digits other = rw other (refl, refl)
leading_read (d ∷ ds) rest digits other =
    let more = leading_read ds rest digits.1 other in
    rw (is_digit_true d digits.0) (ap (λ xs. d ∷ xs) more.0, more.1)

-- what begins an exponent, or 0, is no digit and no point
exponent_begins : (e : ℤ) (text : List ℕ) → SpellsExponent e text
    → (is_digit (get_or text 0 0) 10 ≡ false) × (get_or text 0 0 == 46 ≡ false)
exponent_begins e text (inl none) = rw (none.1) (refl, refl)
exponent_begins e text (inr power) = elim (power.marked) [
  | inl large ↦ rw (power.spelled, large) (refl, refl)
  | inr small ↦ rw (power.spelled, small) (refl, refl)
]

-- what begins otherwise has no places
no_places : (bs : List ℕ) → get_or bs 0 0 == 46 ≡ false
    → (leading_places bs ≡ []) × (past_places bs ≡ bs)
no_places [] other = (refl, refl)
no_places (b ∷ bs) other = rw other (refl, refl)

-- a text is read as digits before and after a point, and this is left
record ReadsDigits (before after last bs : List ℕ) : Type 0 where
  is_before : leading_digits bs ≡ before
  is_after : leading_places (past_digits bs) ≡ after
  is_last : past_places (past_digits bs) ≡ last

-- a text that is digits, a point and digits before an exponent
point_text : (before after digits last : List ℕ) → digits ≡ before ++ 46 ∷ after
    → digits ++ last ≡ before ++ (46 ∷ (after ++ last))
point_text before after digits last point =
    ap (λ xs. xs ++ last) point ∙ append_assoc before (46 ∷ after) last

-- digits with a point, or without, are read before an exponent
digits_read : (before after digits last : List ℕ) → SpellsDigits before after digits
    → is_digit (get_or last 0 0) 10 ≡ false → get_or last 0 0 == 46 ≡ false
    → ReadsDigits before after last (digits ++ last)
digits_read before after digits last spells no_digit no_point =
    elim (spells.spelled) as (λ _. ReadsDigits before after last (digits ++ last)) [
      | inl point ↦ (
          let first = leading_read before (46 ∷ (after ++ last)) spells.digits_before refl in
          let places = leading_read after last spells.digits_after no_digit in
          subst (ReadsDigits before after last) (sym (point_text before after digits last point))
          (record {
            is_before = first.0;
            is_after = rw first.1 places.0;
            is_last = rw first.1 places.1;
          })
          )
      | inr none ↦ (
          let first = leading_read before last spells.digits_before no_digit in
          let places = no_places last no_point in
          subst (λ ds. ReadsDigits before after last (ds ++ last)) (sym none.1) (record {
            is_before = first.0;
            is_after = rw (first.1, places.0) (sym none.0);
            is_last = rw (first.1, places.1) refl;
          })
          )
    ]

-- digits with a point after them begin with no sign
point_unsigned : (ds rest : List ℕ) → AllDigits 10 ds → IsUnsigned (ds ++ 46 ∷ rest)
point_unsigned [] rest digits = (refl, refl)
point_unsigned (d ∷ ds) rest digits = digits_unsigned (d ∷ ds) (46 ∷ rest) digits (λ none. cc)

-- nor do digits with a point or without
spelled_unsigned : (before after digits last : List ℕ) → SpellsDigits before after digits
    → IsUnsigned (digits ++ last)
spelled_unsigned before after digits last spells =
    elim (spells.spelled) as (λ _. IsUnsigned (digits ++ last)) [
      | inl point ↦
          subst IsUnsigned (sym (point_text before after digits last point))
          (point_unsigned before (after ++ last) spells.digits_before)
      | inr none ↦ (
          let some : before ≢ [] = λ empty. spells.not_empty (rw (empty, none.0) refl) in
          subst (λ ds. IsUnsigned (ds ++ last)) (sym none.1)
          (digits_unsigned before last spells.digits_before some)
          )
    ]

-- digits alone are read whole
digits_alone : (ds : List ℕ) → AllDigits 10 ds → (leading_digits ds ≡ ds) × (past_digits ds ≡ [])
digits_alone ds digits = simp append-nil at (leading_read ds [] digits refl)

-- a sign and digits are read after the mark of an exponent
marked_read : (negative : Bool) (sign digits : List ℕ) → SpellsSign negative sign
    → AllDigits 10 digits → digits ≢ []
    → marked_exponent (sign ++ digits) ≡ Some (with_sign negative (digits_value 10 digits))
marked_read negative sign digits signed all some =
    let alone = digits_alone digits all in
    let unsigned : IsUnsigned digits = simp append-nil at (digits_unsigned digits [] all some) in
    let read = sign_read negative sign digits signed unsigned in
    marked_by_parts (sign ++ digits) negative digits digits []
    (sym read.0) (sym read.1) (sym alone.0) (sym alone.1)
    ∙ signed_digits negative digits [] (λ none. some (nil_from_length digits none)) refl

-- a written exponent is read
power_read : (e : ℤ) (text : List ℕ) → SpellsPower e text → exponent_of text ≡ Some e
power_read e text power =
    let read =
    marked_read (power.negative) (power.sign) (power.digits) power.signed power.all_digits
    power.not_empty ∙ ap Some (sym power.value) in
    elim (power.marked) as (λ _. exponent_of text ≡ Some e) [
      | inl large ↦ rw (power.spelled, large) read
      | inr small ↦ rw (power.spelled, small) read
    ]

-- an exponent is read
exponent_read : (e : ℤ) (text : List ℕ) → SpellsExponent e text → exponent_of text ≡ Some e
exponent_read e text (inl none) = rw (none.1, none.0) refl
exponent_read e text (inr power) = power_read e text power

-- a numeral is read
pub spelled_is_read : (text : List ℕ) (n : Numeral) → IsNumeral text n → numeral_of text ≡ Some n
unfolding numeral_of
spelled_is_read text n spells =
    let last = spells.exponent in
    let begins = exponent_begins n.exponent last spells.has_exponent in
    let unsigned = spelled_unsigned n.before n.after (spells.digits) last spells.has_digits in
    let sign = sign_read n.negative (spells.sign) (spells.digits ++ last) spells.signed unsigned in
    let digits =
    digits_read n.before n.after (spells.digits) last spells.has_digits begins.0 begins.1 in
    let exponent = exponent_read n.exponent last spells.has_exponent in
    let some : length n.before ≡ 0 → length n.after ≡ 0 → ⊥ = λ before after.
    spells.has_digits.not_empty
    (rw (nil_from_length n.before before, nil_from_length n.after after) refl) in
    rw (spells.spelled, sign.1, sign.0, digits.is_before, digits.is_after, digits.is_last, exponent)
    (has_digit n.negative n.before n.after n.exponent some)
