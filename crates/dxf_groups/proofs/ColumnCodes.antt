-- The group code of a line of three columns.
use Rattle.std.proofs.Common.{◌≡◌, ℕ, ◌+◌, ◌-◌, ◌*◌, pos, Bool, true, false, ◌&&◌, cond, eqb, List, [], ◌∷◌, length, drop, slice_index, ◌≤◌, Option, Some, None, refl, ap, sym, ◌∙◌, arith}
use Rattle.std.specs.Char.{digit_value, is_ascii_digit}
use Rattle.std.specs.List.{after_first, before_first}
use Rattle.std.proofs.lemmas.Bool.{eqb-true}
use Rattle.std.proofs.lemmas.Bool.Decides.{nat_tests}
use Rattle.dxf_groups.specs.Codes.{group_code_of}
use Rattle.dxf_groups.specs.TextLines.{content_of, is_blank, is_feed}
use Rattle.dxf_groups.proofs.FewDigits.{ascii_value}

-- a digit is no blank,
not_blank : (b : ℕ) → is_ascii_digit b ≡ true → is_blank b ≡ false
not_blank b is = grind (arith, nat_tests, is)

-- no carriage return,
no_return : (b : ℕ) → is_ascii_digit b ≡ true → eqb b 13 ≡ false
no_return b is = grind (arith, nat_tests, is)

-- and no minus sign
no_minus : (b : ℕ) → is_ascii_digit b ≡ true → eqb b 45 ≡ false
no_minus b is = grind (arith, nat_tests, is)

-- what counts of one digit behind two spaces,
one_counts : (c : ℕ) → is_ascii_digit c ≡ true → content_of (32 ∷ 32 ∷ c ∷ []) ≡ c ∷ []
one_counts c isc = rw (no_return c isc) (rw (not_blank c isc) (rw (not_blank c isc) refl))

-- of two behind one,
two_count : (b c : ℕ) → is_ascii_digit b ≡ true → is_ascii_digit c ≡ true
    → content_of (32 ∷ b ∷ c ∷ []) ≡ b ∷ c ∷ []
two_count b c isb isc = rw (no_return c isc, not_blank b isb) (rw (not_blank c isc) refl)

-- and of three
three_count : (a b c : ℕ) → is_ascii_digit a ≡ true → is_ascii_digit c ≡ true
    → content_of (a ∷ b ∷ c ∷ []) ≡ a ∷ b ∷ c ∷ []
three_count a b c isa isc = rw (no_return c isc, not_blank a isa) (rw (not_blank c isc) refl)

-- the group code of one digit,
one_digit : (c : ℕ) → is_ascii_digit c ≡ true → group_code_of (c ∷ []) ≡ Some (pos (c - 48))
one_digit c isc =
    let only = ascii_value c isc in
    let is : 0 + digit_value c ≡ c - 48 = omega (arith, only) in
    rw (no_minus c isc) (rw isc (ap (λ n. Some (pos n)) is))

-- of two,
two_digits : (b c : ℕ) → is_ascii_digit b ≡ true → is_ascii_digit c ≡ true
    → group_code_of (b ∷ c ∷ []) ≡ Some (pos ((b - 48) * 10 + (c - 48)))
two_digits b c isb isc =
    let first = ascii_value b isb in
    let second = ascii_value c isc in
    let is : (0 + digit_value b) * 10 + digit_value c ≡ (b - 48) * 10 + (c - 48) = omega (arith, first, second) in
    rw (no_minus b isb) (rw (isb, isc) (ap (λ n. Some (pos n)) is))

-- and of three
three_digits : (a b c : ℕ) → is_ascii_digit a ≡ true → is_ascii_digit b ≡ true
    → is_ascii_digit c ≡ true → group_code_of (a ∷ b ∷ c ∷ [])
    ≡ Some (pos (((a - 48) * 10 + (b - 48)) * 10 + (c - 48)))
three_digits a b c isa isb isc =
    let first = ascii_value a isa in
    let second = ascii_value b isb in
    let third = ascii_value c isc in
    let is : ((0 + digit_value a) * 10 + digit_value b) * 10 + digit_value c
    ≡ ((a - 48) * 10 + (b - 48)) * 10 + (c - 48) = omega (arith, first, second, third) in
    rw (no_minus a isa) (rw (isa, isb, isc) (ap (λ n. Some (pos n)) is))

-- the number of an answer
abbrev told : Option ℕ → ℕ
told None = 0
told (Some n) = n

column_by : (a b c n : ℕ) (p q r s t : Bool) → eqb a 32 ≡ p → eqb b 32 ≡ q
    → is_ascii_digit (cond p 48 a) ≡ r → is_ascii_digit (cond (p && q) 48 b) ≡ s
    → is_ascii_digit c ≡ t
    → cond {A = Option ℕ} (r && (s && t))
    (Some (((0 + (cond p 48 a - 48)) * 10 + (cond (p && q) 48 b - 48)) * 10 + (c - 48))) None ≡ Some n
    → group_code_of (content_of (a ∷ b ∷ c ∷ [])) ≡ Some (pos n)
column_by a b c n true true true true true isa isb da db dc is =
    let number = ap told is in
    let same : c - 48 ≡ n = omega (arith, number) in
    rw (eqb-true a 32 isa, eqb-true b 32 isb)
    (ap group_code_of (one_counts c dc) ∙ one_digit c dc ∙ ap (λ k. Some (pos k)) same)
column_by a b c n true false true true true isa isb da db dc is =
    let number = ap told is in
    let same : (b - 48) * 10 + (c - 48) ≡ n = omega (arith, number) in
    rw (eqb-true a 32 isa)
    (ap group_code_of (two_count b c db dc) ∙ two_digits b c db dc ∙ ap (λ k. Some (pos k)) same)
column_by a b c n false q true true true isa isb da db dc is =
    let number = ap told is in
    let same : ((a - 48) * 10 + (b - 48)) * 10 + (c - 48) ≡ n = omega (arith, number) in
    ap group_code_of (three_count a b c da dc) ∙ three_digits a b c da db dc
    ∙ ap (λ k. Some (pos k)) same
column_by a b c n p q true true false isa isb da db dc is = absurd cc
column_by a b c n p q true false t isa isb da db dc is = absurd cc
column_by a b c n p q false s t isa isb da db dc is = absurd cc

-- the group code of three columns, from the number that they write with zeros in place of spaces
pub column_code : (a b c x y n : ℕ) → x ≡ cond (eqb a 32) 48 a
    → y ≡ cond (eqb a 32 && eqb b 32) 48 b
    → cond {A = Option ℕ} (is_ascii_digit x && (is_ascii_digit y && is_ascii_digit c))
    (Some (((0 + (x - 48)) * 10 + (y - 48)) * 10 + (c - 48))) None ≡ Some n
    → group_code_of (content_of (a ∷ b ∷ c ∷ [])) ≡ Some (pos n)
column_code a b c x y n isx isy is =
    column_by a b c n (eqb a 32) (eqb b 32) _ _ _ refl refl
    (ap is_ascii_digit (sym isx)) (ap is_ascii_digit (sym isy)) refl
    (rw (sym isx, sym isy) is)

-- the first line of a text whose fourth byte is its first line feed
pub three_columns : (text : List ℕ) → 4 ≤ length text → is_feed (slice_index text 0) ≡ false
    → is_feed (slice_index text 1) ≡ false → is_feed (slice_index text 2) ≡ false
    → slice_index text 3 ≡ 10
    → before_first is_feed text ≡ slice_index text 0 ∷ slice_index text 1 ∷ slice_index text 2 ∷ []
three_columns [] long isa isb isc feed = absurd (omega arith)
three_columns (a ∷ []) long isa isb isc feed = absurd (omega arith)
three_columns (a ∷ b ∷ []) long isa isb isc feed = absurd (omega arith)
three_columns (a ∷ b ∷ c ∷ []) long isa isb isc feed = absurd (omega arith)
three_columns (a ∷ b ∷ c ∷ d ∷ bytes) long isa isb isc feed = rw (isa, isb, isc, feed) refl

pub behind_columns : (text : List ℕ) → 4 ≤ length text → is_feed (slice_index text 0) ≡ false
    → is_feed (slice_index text 1) ≡ false → is_feed (slice_index text 2) ≡ false
    → slice_index text 3 ≡ 10 → after_first is_feed text ≡ drop 4 text
behind_columns [] long isa isb isc feed = absurd (omega arith)
behind_columns (a ∷ []) long isa isb isc feed = absurd (omega arith)
behind_columns (a ∷ b ∷ []) long isa isb isc feed = absurd (omega arith)
behind_columns (a ∷ b ∷ c ∷ []) long isa isb isc feed = absurd (omega arith)
behind_columns (a ∷ b ∷ c ∷ d ∷ bytes) long isa isb isc feed = rw (isa, isb, isc, feed) refl

-- the same behind a carriage return, which doesn't count
pub returned_columns : (text : List ℕ) → 5 ≤ length text → is_feed (slice_index text 0) ≡ false
    → is_feed (slice_index text 1) ≡ false → is_feed (slice_index text 2) ≡ false
    → eqb (slice_index text 2) 13 ≡ false → slice_index text 3 ≡ 13 → slice_index text 4 ≡ 10
    → content_of (before_first is_feed text)
    ≡ content_of (slice_index text 0 ∷ slice_index text 1 ∷ slice_index text 2 ∷ [])
returned_columns [] long isa isb isc bare return feed = absurd (omega arith)
returned_columns (a ∷ []) long isa isb isc bare return feed = absurd (omega arith)
returned_columns (a ∷ b ∷ []) long isa isb isc bare return feed = absurd (omega arith)
returned_columns (a ∷ b ∷ c ∷ []) long isa isb isc bare return feed = absurd (omega arith)
returned_columns (a ∷ b ∷ c ∷ d ∷ []) long isa isb isc bare return feed = absurd (omega arith)
returned_columns (a ∷ b ∷ c ∷ d ∷ e ∷ bytes) long isa isb isc bare return feed =
    let line : before_first is_feed (a ∷ b ∷ c ∷ d ∷ e ∷ bytes) ≡ a ∷ b ∷ c ∷ 13 ∷ [] =
    rw (isa, isb, isc, return, feed) refl in
    let same : content_of (a ∷ b ∷ c ∷ 13 ∷ []) ≡ content_of (a ∷ b ∷ c ∷ []) = rw bare refl in
    ap content_of line ∙ same

pub behind_returned : (text : List ℕ) → 5 ≤ length text → is_feed (slice_index text 0) ≡ false
    → is_feed (slice_index text 1) ≡ false → is_feed (slice_index text 2) ≡ false
    → slice_index text 3 ≡ 13 → slice_index text 4 ≡ 10 → after_first is_feed text ≡ drop 5 text
behind_returned [] long isa isb isc return feed = absurd (omega arith)
behind_returned (a ∷ []) long isa isb isc return feed = absurd (omega arith)
behind_returned (a ∷ b ∷ []) long isa isb isc return feed = absurd (omega arith)
behind_returned (a ∷ b ∷ c ∷ []) long isa isb isc return feed = absurd (omega arith)
behind_returned (a ∷ b ∷ c ∷ d ∷ []) long isa isb isc return feed = absurd (omega arith)
behind_returned (a ∷ b ∷ c ∷ d ∷ e ∷ bytes) long isa isb isc return feed =
    rw (isa, isb, isc, return, feed) refl
