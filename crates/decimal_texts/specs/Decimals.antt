-- Whole numbers that count a unit of ten to a negative power, printed with a point. A number is printed by its digits; that
-- these are the number's is a law (`printed_digits`), and so is that it is read again.
use Rattle.std.specs.Prelude.{ℕ, zero, suc, ◌+◌, ◌/◌, ◌%◌, ◌^◌, List, [], ◌∷◌, ◌++◌, ℤ, pos, negsuc, codes, decimal}
use Rattle.std.specs.Fmt.{signed_decimal}

-- the last so many digits of a number, with zeros before them where it has fewer
abbrev pub last_digits : ℕ → ℕ → List ℕ
last_digits zero n = []
last_digits (suc count) n = last_digits count (n / 10) ++ (48 + n % 10) ∷ []

-- a number divided by ten to a power: what is whole of it, a point, and so many digits
abbrev pub pointed_text : ℕ → ℕ → List ℕ
pointed_text decimals n = decimal (n / 10 ^ decimals) ++ codes "." ++ last_digits decimals n

-- An integer divided by ten to the power of the number of decimals, with exactly so many digits behind the point: a minus stands
-- first where it is negative, and with no decimals there is no point.
abbrev pub decimal_text : ℕ → ℤ → List ℕ
decimal_text zero z = signed_decimal z
decimal_text (suc d) (pos n) = pointed_text (suc d) n
decimal_text (suc d) (negsuc n) = codes "-" ++ pointed_text (suc d) (suc n)
