-- The parts of a numeral, as they are read one after the other.
use Rattle.std.specs.Prelude.{◌≡◌, ℕ, ◌-◌, ◌^◌, ℤ, min, Option, Some, None, MatchOption}
use Rattle.dxf_groups.specs.declared.numerals.Exponent.{Exponent}
use Rattle.dxf_groups.specs.Numerals.{with_sign}

-- a number, as it is kept: one that is too large counts as the greatest of 64 bits
abbrev pub capped : ℕ → ℕ
capped n = min n (2 ^ 64 - 1)

-- By so many places a point is moved, as they are kept: up to a number that is greater than that of the
-- bytes of a text they are the same.
abbrev pub IsKeptShift : ℕ → ℕ → Type 0
IsKeptShift kept n = min kept (2 ^ 64 - 8) ≡ min n (2 ^ 64 - 8)

-- an exponent as it is kept: by its sign and its absolute value
pub record IsKeptExponent (e : ℤ) (kept : Exponent) : Type 0 where
  pub magnitude : ℕ
  pub value : e ≡ with_sign kept.negative magnitude
  pub kept_as : kept.magnitude ≡ capped magnitude

-- there is an exponent, and it was read
pub record IsReadExponent (exponent : Option ℤ) (kept : Exponent) : Type 0 where
  pub value : ℤ
  pub is : exponent ≡ Some value
  pub is_kept : IsKeptExponent value kept

-- what was read is the exponent, or there is none
abbrev pub IsExponent : Option ℤ → Option Exponent → Type 0
IsExponent exponent read = MatchOption read (exponent ≡ None) (IsReadExponent exponent)
