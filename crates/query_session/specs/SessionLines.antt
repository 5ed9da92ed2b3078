-- How the lines of a session are read: word by word. That they are read as they are spelled is a law.
use Rattle.std.specs.Prelude.{ℕ, nat_lt, List, Option, Some, None, option_map, if◌then◌else◌, codes}
use Rattle.std.specs.Option.{option_and_then}
use Rattle.std.specs.Str.{bytes_eq}
use Rattle.text_lines.specs.Numbers.{number_of_word}
use Rattle.text_lines.specs.Words.{cut, of_both}
use Rattle.query_session.specs.declared.ask.Ask.{Ask}
use Rattle.query_session.specs.declared.ask.Ask.TheVariants as ask
use Rattle.query_session.specs.declared.ask.Asking.{Asking}
use Rattle.query_session.specs.Askings.{is_in}

-- a number, where it is one of these
abbrev pub kept_in : ℕ → ℕ → ℕ → Option ℕ
kept_in least most n = if is_in least most n then Some n else None

-- the number that a word is, where it is one of these
abbrev pub number_within : ℕ → ℕ → List ℕ → Option ℕ
number_within least most word = option_and_then (kept_in least most) (number_of_word word)

-- ---- what is asked

-- a page, read from its greatest length on,
abbrev pub page_from : ℕ → List ℕ → Option Ask
page_from from line = option_map (λ most. ask.Page from most) (number_within 1 256 line)

-- and from its place on
abbrev pub page_of : List ℕ → Option Ask
page_of line = of_both page_from (number_within 0 65536 (cut line).word) (cut line).rest

-- a wait, read from the number of solids on
abbrev pub wait_of : List ℕ → Option Ask
wait_of line = option_map (λ count. ask.Wait count) (number_within 1 65536 line)

-- what begins with a word, read from what stands behind it
abbrev pub ask_behind : List ℕ → List ℕ → Option Ask
ask_behind word line = if bytes_eq word (codes "page") then page_of line else (if bytes_eq word (codes "wait") then wait_of line else None)

-- where something stands behind it, or nothing
abbrev pub ask_of_cut : List ℕ → Option (List ℕ) → Option Ask
ask_of_cut word None = if bytes_eq word (codes "stop") then Some ask.Stop else None
ask_of_cut word (Some line) = ask_behind word line

-- what is asked of a reader
abbrev pub ask_of_line : List ℕ → Option Ask
ask_of_line line = ask_of_cut (cut line).word (cut line).rest

-- ---- lines

-- what is asked of this one of so many readers
abbrev pub asking_with : ℕ → ℕ → List ℕ → Option Asking
asking_with readers reader line =
    if nat_lt reader readers then option_map (λ a. record { reader = reader; ask = a }) (ask_of_line line) else None

-- what a line asks of one of so many readers
abbrev pub asking_of_line : ℕ → List ℕ → Option Asking
asking_of_line readers line = of_both (asking_with readers) (number_of_word (cut line).word) (cut line).rest

-- the number in what a first line is cut into
abbrev pub readers_of_cut : List ℕ → Option (List ℕ) → Option ℕ
readers_of_cut word None = None
readers_of_cut word (Some line) = if bytes_eq word (codes "readers") then number_within 1 16 line else None

-- how many readers a first line tells
abbrev pub readers_of_line : List ℕ → Option ℕ
readers_of_line line = readers_of_cut (cut line).word (cut line).rest
