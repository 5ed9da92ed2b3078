-- Numerals, and the whole numbers that they stand for.
use Rattle.std.specs.Prelude.{◌≡◌, ◌≢◌, ◌⊎◌, ℕ, ◌+◌, ◌*◌, ◌/◌, ◌%◌, ◌^◌, ◌==◌, ◌||◌, Bool, true, false, cond, List, [], ◌∷◌, ◌++◌, length, ℤ, pos, negsuc, neg_ℤ, ◌+ℤ◌, ◌-ℤ◌, nat_le, Option, Some, None, Result, Ok, Err, codes}
use Rattle.std.specs.Char.{is_digit}
use Rattle.std.specs.Str.Parse.{AllDigits, digits_value, starts_with_minus, without_leading_sign}
use Rattle.solid_model.specs.Limits.{farthest_on_sheet}
use Rattle.dxf_groups.specs.declared.numerals.NumeralFault.{NumeralFault}
use Rattle.dxf_groups.specs.declared.numerals.NumeralFault.TheVariants.{BadNumber, NotWhole, TooFar}

-- The parts of a numeral: whether its sign is a minus, the digits before and after the point, as
-- bytes, and its exponent.
pub record Numeral : Type 0 where
  pub negative : Bool
  pub before : List ℕ
  pub after : List ℕ
  pub exponent : ℤ

-- the whole number of a sign and an absolute value
abbrev pub with_sign : Bool → ℕ → ℤ
with_sign negative m = cond negative (neg_ℤ (pos m)) (pos m)

-- ---- how a numeral is spelled

-- a sign: `-`, or `+` or nothing
abbrev pub SpellsSign : Bool → List ℕ → Type 0
SpellsSign true text = text ≡ codes "-"
SpellsSign false text = (text ≡ []) ⊎ (text ≡ codes "+")

-- digits before and after a point, at least one in all; without a digit after it the point may lack
pub record SpellsDigits (before after text : List ℕ) : Type 0 where
  pub digits_before : AllDigits 10 before
  pub digits_after : AllDigits 10 after
  pub not_empty : before ++ after ≢ []
  pub spelled : (text ≡ before ++ (codes "." ++ after)) ⊎ ((after ≡ []) × (text ≡ before))

-- a written exponent: `E` or `e`, a sign and at least one digit
pub record SpellsPower (exponent : ℤ) (text : List ℕ) : Type 0 where
  pub mark : List ℕ
  pub negative : Bool
  pub sign : List ℕ
  pub digits : List ℕ
  pub marked : (mark ≡ codes "E") ⊎ (mark ≡ codes "e")
  pub signed : SpellsSign negative sign
  pub all_digits : AllDigits 10 digits
  pub not_empty : digits ≢ []
  pub value : exponent ≡ with_sign negative (digits_value 10 digits)
  pub spelled : text ≡ mark ++ (sign ++ digits)

-- an exponent: nothing, and then it is 0, or a written one
abbrev pub SpellsExponent : ℤ → List ℕ → Type 0
SpellsExponent exponent text = ((exponent ≡ pos 0) × (text ≡ [])) ⊎ SpellsPower exponent text

-- a numeral: a sign, digits, an exponent
pub record IsNumeral (text : List ℕ) (n : Numeral) : Type 0 where
  pub sign : List ℕ
  pub digits : List ℕ
  pub exponent : List ℕ
  pub signed : SpellsSign n.negative sign
  pub has_digits : SpellsDigits n.before n.after digits
  pub has_exponent : SpellsExponent n.exponent exponent
  pub spelled : text ≡ sign ++ (digits ++ exponent)

-- ---- how it is read

-- the digits that a text begins with
abbrev pub leading_digits : List ℕ → List ℕ
leading_digits [] = []
leading_digits (b ∷ bs) = cond (is_digit b 10) (b ∷ leading_digits bs) []

-- what follows them
abbrev pub past_digits : List ℕ → List ℕ
past_digits [] = []
past_digits (b ∷ bs) = cond (is_digit b 10) (past_digits bs) (b ∷ bs)

-- the digits after the point that a text begins with; none without the point
abbrev pub leading_places : List ℕ → List ℕ
leading_places [] = []
leading_places (b ∷ bs) = cond (b == 46) (leading_digits bs) []

-- what follows the point and them
abbrev pub past_places : List ℕ → List ℕ
past_places [] = []
past_places (b ∷ bs) = cond (b == 46) (past_digits bs) (b ∷ bs)

-- the number that a sign and these digits, at least one and nothing after them, stand for
abbrev pub signed_number : Bool → List ℕ → List ℕ → Option ℤ
signed_number negative (d ∷ ds) [] = Some (with_sign negative (digits_value 10 (d ∷ ds)))
signed_number negative digits rest = None

-- the exponent that a sign and digits are, after the mark
abbrev pub marked_exponent : List ℕ → Option ℤ
marked_exponent text = let unsigned = without_leading_sign text in
    signed_number (starts_with_minus text) (leading_digits unsigned) (past_digits unsigned)

-- the exponent that a text is
abbrev pub exponent_of : List ℕ → Option ℤ
exponent_of [] = Some (pos 0)
exponent_of (b ∷ bs) = cond (b == 69 || b == 101) (marked_exponent bs) None

-- the numeral of these parts: it has a digit, and its exponent is one
abbrev pub numeral_with : Bool → List ℕ → List ℕ → Option ℤ → Option Numeral
numeral_with negative before after None = None
numeral_with negative [] [] (Some e) = None
numeral_with negative before after (Some e) =
    Some (record { negative = negative; before = before; after = after; exponent = e })

-- the numeral that a text is
unfoldable pub numeral_of : List ℕ → Option Numeral
numeral_of text = let unsigned = without_leading_sign text in let rest = past_digits unsigned in
    numeral_with (starts_with_minus text) (leading_digits unsigned) (leading_places rest)
    (exponent_of (past_places rest))

-- ---- what it stands for

-- m times ten to a power, where that is whole
abbrev pub times_power : ℕ → ℤ → Option ℕ
times_power m (pos e) = Some (m * 10 ^ e)
times_power m (negsuc e) =
    let divisor = 10 ^ (e + 1) in cond (m % divisor == 0) (Some (m / divisor)) None

-- the magnitude of digits before and after a point with an exponent, where that is whole: the digits,
-- as one whole number, times ten to the exponent less the number of places
abbrev pub magnitude_of : List ℕ → List ℕ → ℤ → Option ℕ
magnitude_of before after exponent =
    times_power (digits_value 10 (before ++ after)) (exponent -ℤ pos (length after))

-- the whole number of a sign and a magnitude, where that is at most 1,000,000,000
abbrev pub within_reach : Bool → Option ℕ → Result ℤ NumeralFault
within_reach negative None = Err NotWhole
within_reach negative (Some m) =
    cond (nat_le m farthest_on_sheet) (Ok (with_sign negative m)) (Err TooFar)

-- the value of a numeral that is read with so many decimals: they make its exponent greater by as
-- many, so that it counts units of ten to the power of minus their number
abbrev pub numeral_value : ℕ → Numeral → Result ℤ NumeralFault
numeral_value decimals n =
    within_reach n.negative (magnitude_of n.before n.after (n.exponent +ℤ pos decimals))

-- the value of what may be a numeral
abbrev pub value_or_fault : ℕ → Option Numeral → Result ℤ NumeralFault
value_or_fault decimals None = Err BadNumber
value_or_fault decimals (Some n) = numeral_value decimals n

-- the whole number that a text stands for that is read with so many decimals
unfoldable pub scaled_of : ℕ → List ℕ → Result ℤ NumeralFault
scaled_of decimals text = value_or_fault decimals (numeral_of text)

-- the whole number that a text stands for without decimals
abbrev pub whole_of : List ℕ → Result ℤ NumeralFault
whole_of text = scaled_of 0 text
