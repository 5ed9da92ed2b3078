-- Numbers as words.
use Rattle.std.specs.Prelude.{◌==◌, ◌&&◌, ◌||◌, not, Bool, ℕ, ◌+◌, ◌*◌, ◌-◌, nat_lt, nat_le, List, [], ◌∷◌, length, get_or, Option, Some, None, if◌then◌else◌}
use Rattle.std.specs.Str.{all_ascii_digits}

-- a number has at most ten digits
abbrev pub has_ten_digits : ℕ → Bool
has_ten_digits n = nat_lt n 10000000000

-- a word is a number: one to ten digits, without a leading zero
abbrev pub is_number_word : List ℕ → Bool
is_number_word word = all_ascii_digits word
    && (nat_lt 0 (length word) && (nat_le (length word) 10 && (not (get_or word 0 0 == 48) || (length word == 1))))

-- the number that digits make behind those of a number
abbrev pub value_behind : ℕ → List ℕ → ℕ
value_behind n [] = n
value_behind n (c ∷ cs) = value_behind (n * 10 + (c - 48)) cs

-- the number that a word is
abbrev pub number_of_word : List ℕ → Option ℕ
number_of_word word = if is_number_word word then Some (value_behind 0 word) else None
