-- The lines of a text, and what counts of each.
use Rattle.std.specs.Prelude.{ℕ, zero, suc, ◌-◌, Bool, cond, ◌==◌, ◌||◌, List, [], ◌∷◌, length, take, drop, map, slice_index}
use Rattle.std.specs.List.{after_first, onto_first, prefix_len, suffix_len}

-- a line feed
abbrev pub is_feed : ℕ → Bool
is_feed b = b == 10

-- a blank is a space or a tab
abbrev pub is_blank : ℕ → Bool
is_blank b = b == 32 || b == 9

-- the lines of a text: each ends with a line feed, which the last may lack
abbrev pub text_lines : List ℕ → List (List ℕ)
text_lines [] = []
text_lines (b ∷ bytes) = cond (is_feed b) ([] ∷ text_lines bytes) (onto_first b (text_lines bytes))

-- what stands in a text behind its first so many lines
abbrev pub behind_lines : ℕ → List ℕ → List ℕ
behind_lines zero text = text
behind_lines (suc n) text = after_first is_feed (behind_lines n text)

-- a line without the carriage return at its end, if one stands there
abbrev pub without_return : List ℕ → List ℕ
without_return line =
    take (length line - cond (slice_index line (length line - 1) == 13) 1 0) line

-- a line without the blanks that it begins with
abbrev pub without_leading_blanks : List ℕ → List ℕ
without_leading_blanks line = drop (prefix_len is_blank line) line

-- a line without the blanks that it ends with
abbrev pub without_trailing_blanks : List ℕ → List ℕ
without_trailing_blanks line = take (length line - suffix_len is_blank line) line

-- what counts of a line: what is left without one carriage return, and then without the blanks at
-- both ends
abbrev pub content_of : List ℕ → List ℕ
content_of line = without_trailing_blanks (without_leading_blanks (without_return line))

-- what counts of each line of a text
abbrev pub contents_of : List ℕ → List (List ℕ)
contents_of text = map content_of (text_lines text)
