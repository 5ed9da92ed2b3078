-- The words of a command line: which of them a command takes, and what they say.
use Rattle.std.specs.Prelude.{ℕ, ◌&&◌, Bool, true, not, List, [], ◌∷◌, ◌++◌, length, Option, Some, None}
use Rattle.std.specs.Prelude.{if◌then◌else◌, nat_lt, nat_le, codes, find, option_map, unwrap_or}
use Rattle.std.specs.List.{list_all, list_any}
use Rattle.std.specs.Option.{option_map_or}
use Rattle.std.specs.Char.{is_ascii_digit}
use Rattle.std.specs.Str.{bytes_eq}
use Rattle.std.specs.Str.Parse.{digits_value}
use Rattle.clap.specs.Lexer.{long_of}
use Rattle.words.specs.declared.table.Range.{Range}

-- a text by its bytes
abbrev pub Text : Type 0
Text = List ℕ

-- an option: its name, and the numbers that its value may be; a flag has no value
pub record Field : Type 0 where
  pub name : Text
  pub range : Option Range

-- what a command takes: its options, and the numbers that its number may be, where it has one
pub record Table : Type 0 where
  pub options : List Field
  pub number : Option Range

-- a use of an option, with the value that it is given
abbrev pub Use : Type 0
Use = Field × Text

-- what stands for the value of a flag
abbrev pub flag_text : Text
flag_text = codes "true"

-- the number as if it were an option, called so
abbrev pub number_name : Text
number_name = codes "number"

abbrev pub number_field : Range → Field
number_field r = record { name = number_name; range = Some r }

-- what a word is: a use, an option whose value is the next word, or none that the command has
pub data Word : Type 0 where
  says : Use → Word
  opens : Field → Word
  stray : Word

-- the option of this name
abbrev pub option_of : Table → Text → Option Field
option_of t name = find (λ f. bytes_eq f.name name) t.options

-- `--name`, or `--name=value`
abbrev pub field_word : Field → Option Range → Option Text → Word
field_word f None None = says (f, flag_text)
field_word f None (Some value) = stray
field_word f (Some range) None = opens f
field_word f (Some range) (Some value) = says (f, value)

-- a word that begins with two hyphens, by the option of its name
abbrev pub option_word : Option Field → Option Text → Word
option_word None value = stray
option_word (Some f) value = field_word f f.range value

-- any other word is the number
abbrev pub number_word : Option Range → Text → Word
number_word None word = stray
number_word (Some range) word = says (number_field range, word)

-- what a word is, by its name and value where it begins with two hyphens
abbrev pub word_as : Table → Option (Text × Option Text) → Text → Word
word_as t (Some long) word = option_word (option_of t long.0) long.1
word_as t None word = number_word t.number word

abbrev pub word_of : Table → Text → Word
word_of t word = word_as t (long_of word) word

-- a use before others
abbrev pub put : Use → Option (List Use) → Option (List Use)
put u = option_map (λ us. u ∷ us)

-- the uses from a word on, by those of the words after it, and by those where an option waits for its value
abbrev pub after_word : Word → Option (List Use) → (Field → Option (List Use)) → Option (List Use)
after_word (says u) rest waits = put u rest
after_word (opens f) rest waits = waits f
after_word stray rest waits = None

-- the uses that words make, where each of them is one or belongs to one; an option may wait for its value
abbrev pub uses : Table → Option Field → List Text → Option (List Use)
uses t None [] = Some []
uses t (Some f) [] = None
uses t (Some f) (w ∷ ws) = put (f, w) (uses t None ws)
uses t None (w ∷ ws) = after_word (word_of t w) (uses t None ws) (λ f. uses t (Some f) ws)

-- one or more digits
abbrev pub is_digits : Text → Bool
is_digits text = nat_lt 0 (length text) && list_all is_ascii_digit text

-- digits whose number is in the range
abbrev pub lies_in_range : Range → Text → Bool
lies_in_range range text = is_digits text && (nat_le range.least (digits_value 10 text) && nat_le (digits_value 10 text) range.most)

-- the value is one that the option takes
abbrev pub suits : Use → Bool
suits u = option_map_or (λ range. lies_in_range range u.1) u.0.range true

-- the name is used
abbrev pub is_used : Text → List Use → Bool
is_used name us = list_any (λ u. bytes_eq u.0.name name) us

-- after those seen, each use has a value that its option takes, and none is a repetition
abbrev pub fits_after : List Use → List Use → Bool
fits_after seen [] = true
fits_after seen (u ∷ us) = (not (is_used u.0.name seen) && suits u) && fits_after (seen ++ u ∷ []) us

-- the number is there where the command has one
abbrev pub has_number : Table → List Use → Bool
has_number t us = option_map_or (λ range. is_used number_name us) t.number true

-- the uses, where they fit and the number is there
abbrev pub where_fit : Table → Option (List Use) → Option (List Use)
where_fit t None = None
where_fit t (Some us) = if fits_after [] us && has_number t us then Some us else None

-- the uses that the words after the command make, where the command takes them
abbrev pub taken : Table → List Text → Option (List Use)
taken t words = where_fit t (uses t None words)

-- the value that a name is given
abbrev pub text_in : Text → List Use → Option Text
text_in name us = option_map (λ u. u.1) (find (λ u. bytes_eq u.0.name name) us)

-- its number, or where it isn't used this one
abbrev pub number_or : List Use → Text → ℕ → ℕ
number_or us name otherwise = unwrap_or (option_map (digits_value 10) (text_in name us)) otherwise
