-- Group codes.
use Rattle.std.specs.Prelude.{ℕ, ℤ, pos, neg_ℤ, Bool, cond, ◌==◌, ◌&&◌, nat_le, List, length, drop, slice_index, Option, Some, None, codes}
use Rattle.std.specs.Ordering.{int_eq}
use Rattle.std.specs.Str.{all_ascii_digits, str_eq_ignore_ascii_case}
use Rattle.std.specs.Str.Parse.{digits_value}

-- the text begins with a minus sign
abbrev pub is_negative : List ℕ → Bool
is_negative text = slice_index text 0 == 45

-- the text without the minus sign, where it begins with one
abbrev pub without_minus : List ℕ → List ℕ
without_minus text = cond (is_negative text) (drop 1 text) text

-- one to four decimal digits
abbrev pub are_few_digits : List ℕ → Bool
are_few_digits text =
    all_ascii_digits text && (nat_le 1 (length text) && nat_le (length text) 4)

-- the group code that a text spells: a minus sign or none, and one to four decimal digits
abbrev pub group_code_of : List ℕ → Option ℤ
group_code_of text =
    let number : ℤ = pos (digits_value 10 (without_minus text)) in
    cond (are_few_digits (without_minus text))
    (Some (cond (is_negative text) (neg_ℤ number) number))
    None

-- the code of a comment
abbrev pub is_comment : ℤ → Bool
is_comment code = int_eq code (pos 999)

-- the code and the value of the pair that ends a file
abbrev pub is_end : ℤ → List ℕ → Bool
is_end code value = int_eq code (pos 0) && str_eq_ignore_ascii_case value (codes "EOF")
