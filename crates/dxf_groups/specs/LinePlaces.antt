-- A line that is read at a place of a text.
use Rattle.std.specs.Prelude.{◌≡◌, ◌≤◌, ◌<◌, ◌∷◌, ℕ, List, length, drop}
use Rattle.std.specs.List.{after_first, before_first}
use Rattle.dxf_groups.specs.declared.pairs.CodeLine.{CodeLine}
use Rattle.dxf_groups.specs.declared.text_lines.TextLine.{TextLine}
use Rattle.dxf_groups.specs.Codes.{group_code_of}
use Rattle.dxf_groups.specs.Spans.{IsSpanIn, span_of}
use Rattle.dxf_groups.specs.TextLines.{content_of, contents_of, is_feed}

-- this is the line that begins at the place, with what counts of it
pub record IsLineAt (text : List ℕ) (place : ℕ) (line : TextLine) : Type 0 where
  pub span : IsSpanIn text line.content
  pub content : contents_of (drop place text) ≡ span_of text line.content ∷ contents_of (drop line.after text)
  pub next : drop line.after text ≡ after_first is_feed (drop place text)
  pub goes_on : place < line.after
  pub within : line.after ≤ length text

-- the same, with its group code
pub record IsCodeLineAt (text : List ℕ) (place : ℕ) (line : CodeLine) : Type 0 where
  pub code : line.code ≡ group_code_of (content_of (before_first is_feed (drop place text)))
  pub next : drop line.after text ≡ after_first is_feed (drop place text)
  pub goes_on : place < line.after
  pub within : line.after ≤ length text
