-- The number that four digits write.
use Rattle.std.proofs.Common.{◌≡◌, ℕ, ◌+◌, ◌-◌, ◌*◌, Bool, true, false, ◌&&◌, cond, List, [], ◌∷◌, length, get_or, Option, Some, None, refl, ap, arith}
use Rattle.std.specs.Char.{digit_value, is_ascii_digit}
use Rattle.std.specs.Str.Parse.{digits_value}
use Rattle.std.proofs.lemmas.Bool.Decides.{nat_tests}
use Rattle.dxf_groups.specs.Codes.{are_few_digits}

-- the value of a digit
pub ascii_value : (b : ℕ) → is_ascii_digit b ≡ true → digit_value b ≡ b - 48
ascii_value b is = grind (arith, nat_tests, is)

-- the number of four values, one after another
in_steps : (a b c d w x y z : ℕ) → w ≡ a → x ≡ b → y ≡ c → z ≡ d
    → ((a * 10 + b) * 10 + c) * 10 + d ≡ (((0 * 10 + w) * 10 + x) * 10 + y) * 10 + z
in_steps a b c d w x y z p q r s = omega arith

number_by : (a b c d : ℕ) (p q r s : Bool) → is_ascii_digit a ≡ p → is_ascii_digit b ≡ q
    → is_ascii_digit c ≡ r → is_ascii_digit d ≡ s
    → cond {A = Option ℕ} (p && (q && (r && s)))
    (Some ((((a - 48) * 10 + (b - 48)) * 10 + (c - 48)) * 10 + (d - 48))) None
    ≡ cond {A = Option ℕ} ((p && (q && (r && (s && true)))) && true)
    (Some (digits_value 10 (a ∷ b ∷ c ∷ d ∷ []))) None
number_by a b c d true true true true isa isb isc isd =
    ap Some (in_steps _ _ _ _ (digit_value a) (digit_value b) (digit_value c) (digit_value d)
    (ascii_value a isa) (ascii_value b isb) (ascii_value c isc) (ascii_value d isd))
number_by a b c d true true true false isa isb isc isd = refl
number_by a b c d true true false s isa isb isc isd = refl
number_by a b c d true false r s isa isb isc isd = refl
number_by a b c d false q r s isa isb isc isd = refl

-- four bytes are few digits where each of them is one
pub four_digits : (ds : List ℕ) (m n o p : ℕ) → length ds ≡ 4
    → cond {A = Option ℕ} (is_ascii_digit (get_or ds 0 m) && (is_ascii_digit (get_or ds 1 n)
    && (is_ascii_digit (get_or ds 2 o) && is_ascii_digit (get_or ds 3 p))))
    (Some ((((get_or ds 0 m - 48) * 10 + (get_or ds 1 n - 48)) * 10 + (get_or ds 2 o - 48)) * 10
    + (get_or ds 3 p - 48))) None
    ≡ cond {A = Option ℕ} (are_few_digits ds) (Some (digits_value 10 ds)) None
four_digits [] m n o p four = absurd (omega arith)
four_digits (a ∷ []) m n o p four = absurd (omega arith)
four_digits (a ∷ b ∷ []) m n o p four = absurd (omega arith)
four_digits (a ∷ b ∷ c ∷ []) m n o p four = absurd (omega arith)
four_digits (a ∷ b ∷ c ∷ d ∷ []) m n o p four = number_by a b c d _ _ _ _ refl refl refl refl
four_digits (a ∷ b ∷ c ∷ d ∷ e ∷ ds) m n o p four = absurd (omega arith)
