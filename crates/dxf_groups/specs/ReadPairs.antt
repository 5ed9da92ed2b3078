-- A pair that is read at a place of a text, and what is left then.
use Rattle.std.specs.Prelude.{◌≡◌, ◌≤◌, ◌<◌, ◌+◌, ◌-◌, ℕ, List, length, drop, Option, Some, None, Result, Ok, Err}
use Rattle.std.specs.List.{after_first, before_first}
use Rattle.solid_model.specs.declared.fault.Fault.{Fault}
use Rattle.solid_model.specs.Limits.{most_text_bytes}
use Rattle.dxf_groups.specs.declared.pairs.CodePlace.{CodePlace}
use Rattle.dxf_groups.specs.declared.pairs.ReadPair.{ReadPair}
use Rattle.dxf_groups.specs.Codes.{group_code_of}
use Rattle.dxf_groups.specs.Pairs.{Pairs, ended, text_pair, pair_before, pairs_from, pairs_of, without_mark}
use Rattle.dxf_groups.specs.Spans.{IsSpanIn, span_of}
use Rattle.dxf_groups.specs.TextLines.{behind_lines, content_of, contents_of, is_feed}

-- A place in a text of at most so many bytes, at which the line with this number begins, counted from 1
-- after the text's mark. Each line before it has a byte of its own, its line feed.
pub record IsPlaceIn (text : List ℕ) (place line : ℕ) : Type 0 where
  pub short : length text ≤ most_text_bytes
  pub within : place ≤ length text
  pub counted : line ≤ place + 1
  pub some : 1 ≤ line
  pub begins : drop place text ≡ behind_lines (line - 1) (without_mark text)

-- the pairs of a text from this place on, where a line with this number begins
abbrev pub pairs_at : List ℕ → ℕ → ℕ → Pairs
pairs_at text place line = pairs_from line (contents_of (drop place text))

-- the line that begins at this place has this code, and a line follows it
pub record IsCodeAt (text : List ℕ) (place : ℕ) (read : CodePlace) : Type 0 where
  pub some : place < length text
  pub code : group_code_of (content_of (before_first is_feed (drop place text))) ≡ Some read.code
  pub next : drop read.after text ≡ after_first is_feed (drop place text)
  pub goes_on : place < read.after
  pub within : read.after < length text

-- the pair is the first one of these, unless it is a comment, and the others are left behind it
pub record IsReadFrom (text : List ℕ) (left : Pairs) (read : ReadPair) : Type 0 where
  pub span : IsSpanIn text read.pair.value
  pub place_after : IsPlaceIn text read.after (read.pair.line + 2)
  pub pairs : left
      ≡ pair_before (text_pair read.pair (span_of text read.pair.value))
      (pairs_at text read.after (read.pair.line + 2))

-- the answer of a reading of these pairs: a pair, or the fault that they end with at once
abbrev pub IsReading : List ℕ → Pairs → Result ReadPair Fault → Type 0
IsReading text left (Ok read) = IsReadFrom text left read
IsReading text left (Err fault) = left ≡ ended (Err fault)

-- what is left of a text: nothing but the ending, once that was read
abbrev pub left_from : List ℕ → ℕ → ℕ → Option (Result ℕ Fault) → Pairs
left_from text place line None = pairs_at text place line
left_from text place line (Some ending) = ended ending

-- the line of the end pair's code, once that was read
abbrev pub end_line_of : Option (Result ℕ Fault) → Option ℕ
end_line_of None = None
end_line_of (Some (Ok line)) = Some line
end_line_of (Some (Err fault)) = None

-- Where a reader stands: at a place of its text, of which the pairs that are left end as all do; once the
-- end pair was read, behind its two lines.
pub record StandsIn (text : List ℕ) (place line : ℕ) (ending : Option (Result ℕ Fault)) : Type 0 where
  pub at : IsPlaceIn text place line
  pub same_ending : (left_from text place line ending).ending ≡ (pairs_of text).ending
  pub passed : (end : ℕ) → ending ≡ Some (Ok end) → line ≡ end + 2
