-- The words that no command takes, whatever its table.
use Rattle.std.specs.Prelude.{◌==◌, ◌&&◌, ◌||◌, Bool, false, [], ◌∷◌, codes}
use Rattle.std.specs.Str.{bytes_eq}
use Rattle.words.specs.Words.{Text}

-- the text begins with `+` (43)
abbrev pub begins_with_plus : Text → Bool
begins_with_plus [] = false
begins_with_plus (c ∷ cs) = c == 43

-- `=+` stands in the text
abbrev pub has_equals_plus : Text → Bool
has_equals_plus [] = false
has_equals_plus (c ∷ cs) = (c == 61 && begins_with_plus cs) || has_equals_plus cs

-- the word begins with `+`, has `=+` in it or is `--`
abbrev pub is_barred_word : Text → Bool
is_barred_word word = begins_with_plus word || (has_equals_plus word || bytes_eq word (codes "--"))
