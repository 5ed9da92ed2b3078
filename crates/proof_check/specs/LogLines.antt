-- How the lines of a log are read: word by word. That they are read as they are spelled is a law.
use Rattle.std.specs.Prelude.{Bool, ℕ, List, take, drop, Option, Some, None, option_map, if◌then◌else◌, codes}
use Rattle.std.specs.Str.{bytes_eq}
use Rattle.solid_model.specs.declared.frame.View.{View}
use Rattle.solid_model.specs.declared.frame.View.TheVariants.{Front, Top, Side}
use Rattle.text_lines.specs.Numbers.{number_of_word}
use Rattle.text_lines.specs.Words.{cut, of_both, either_word}
use Rattle.completeness_logs.specs.declared.entry.LogEntry.{LogEntry}
use Rattle.completeness_logs.specs.declared.entry.LogEntry.TheVariants.{Fail, Whole, Force, Split}
use Rattle.completeness_logs.specs.declared.entry.LinePlace.{LinePlace}

-- the view that a word names
abbrev pub view_of_word : List ℕ → Option View
view_of_word word = if bytes_eq word (codes "front") then Some Front else
    (if bytes_eq word (codes "top") then Some Top else (if bytes_eq word (codes "side") then Some Side else None))

-- ---- where a line of the grid stands

-- its place, read from the index of its cell on,
abbrev pub place_with : View → Bool → ℕ → List ℕ → Option LinePlace
place_with view upright at line = option_map (λ cell. record { view = view; upright = upright; at = at; cell = cell }) (number_of_word line)

-- from that of its position on,
abbrev pub place_along : View → Bool → List ℕ → Option LinePlace
place_along view upright line = of_both (place_with view upright) (number_of_word (cut line).word) (cut line).rest

-- from the word on that says whether it is upright,
abbrev pub place_seen_in : View → List ℕ → Option LinePlace
place_seen_in view line = of_both (place_along view) (either_word (codes "l") (codes "u") (cut line).word) (cut line).rest

-- and from its view on
abbrev pub place_named : List ℕ → Option LinePlace
place_named line = of_both place_seen_in (view_of_word (cut line).word) (cut line).rest

-- ---- entries

-- what forces a block, read from the place of the line on,
abbrev pub force_with : ℕ → Bool → List ℕ → Option LogEntry
force_with block full line = option_map (λ place. Force block full place) (place_named line)

-- from the value of the block on,
abbrev pub force_on : ℕ → List ℕ → Option LogEntry
force_on block line = of_both (force_with block) (either_word (codes "0") (codes "1") (cut line).word) (cut line).rest

-- and from the block on
abbrev pub force_of : List ℕ → Option LogEntry
force_of line = of_both force_on (number_of_word (cut line).word) (cut line).rest

-- a line that fails, read from its place on
abbrev pub fail_of : List ℕ → Option LogEntry
fail_of line = option_map (λ place. Fail place) (place_named line)

-- a split, read from its block on
abbrev pub split_of : List ℕ → Option LogEntry
split_of line = option_map (λ block. Split block) (number_of_word line)

-- the entry that begins with a word, read from what stands behind it
abbrev pub entry_behind : List ℕ → List ℕ → Option LogEntry
entry_behind word line = if bytes_eq word (codes "fail") then fail_of line else (if bytes_eq word (codes "force") then force_of line
    else (if bytes_eq word (codes "split") then split_of line else None))

-- where something stands behind it, or nothing
abbrev pub entry_of_cut : List ℕ → Option (List ℕ) → Option LogEntry
entry_of_cut word None = if bytes_eq word (codes "solid") then Some Whole else None
entry_of_cut word (Some line) = entry_behind word line

-- the entry of a line
abbrev pub entry_of_line : List ℕ → Option LogEntry
entry_of_line line = entry_of_cut (cut line).word (cut line).rest

-- ---- the first and the last line

-- the number in what a last line is cut into
abbrev pub closing_count_of_cut : List ℕ → Option (List ℕ) → Option ℕ
closing_count_of_cut word None = None
closing_count_of_cut word (Some line) = if bytes_eq word (codes "end") then number_of_word line else None

-- the number of solids that a last line tells
abbrev pub closing_count : List ℕ → Option ℕ
closing_count line = closing_count_of_cut (cut line).word (cut line).rest

-- the number of blocks that a first line tells
abbrev pub opening_count : List ℕ → Option ℕ
opening_count line = if bytes_eq (take 13 line) (codes "log 1 blocks ") then number_of_word (drop 13 line) else None

-- how lines are read
pub record LogReading : Type 0 where
  pub entry : List ℕ → Option LogEntry
  pub end : List ℕ → Option ℕ

-- how those of a log are
abbrev pub log_reading : LogReading
log_reading = record { entry = entry_of_line; end = closing_count }
