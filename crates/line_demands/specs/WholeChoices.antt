-- Problems whose blocks are all decided.
use Rattle.std.specs.Prelude.{◌≡◌, ◌↔◌, ◌<◌, Bool, ℕ, List, length, slice_index_or, IsTrue}
use Rattle.column_lanes.specs.Styles.{style_byte}
use Rattle.line_demands.specs.declared.known.KnownColumn.{KnownColumn}
use Rattle.line_demands.specs.declared.lines.Beside.{Beside}
use Rattle.line_demands.specs.declared.whole.DrawnLines.{DrawnLines}
use Rattle.line_demands.specs.Gathered.{no_side}
use Rattle.line_demands.specs.Spans.{column_there}
use Rattle.solid_model.specs.Decisions.{decided_by, PartialParts}
use Rattle.solid_model.specs.declared.segment.Segment.{Segment}
use Rattle.solid_model.specs.declared.segment.Style.{Style}
use Rattle.solid_model.specs.declared.segment.Style.TheVariants.{Blank}
use Rattle.lemmas.specs.Bits.{bits}
use Rattle.solid_model.specs.Choices.{IsMatchingChoice}
use Rattle.solid_model.specs.Columns.{ColumnsDraw}
use Rattle.solid_model.specs.Demands.{said_by}
use Rattle.lemmas.specs.Lists.{Member, Each}
use Rattle.solid_model.specs.Panels.{coordinates_of, IsGridOf}
use Rattle.solid_model.specs.Runs.{IsDrawing}

-- the choice says of each block what was decided of it
pub record IsDecidedChoice (p : PartialParts) (choice : List Bool) : Type 0 where
  pub whole : length choice ≡ p.problem.blocks.count
  pub each : (block : ℕ) → block < p.problem.blocks.count → decided_by p.decisions block ≡ said_by choice block

-- the answer is yes exactly where the decided solid matches the drawing, whatever drawing the grid is that of
abbrev pub TellsMatching : PartialParts → Bool → Type 0
TellsMatching p answer = (drawing : Segment → Style) → IsDrawing drawing → IsGridOf drawing p.problem.grid
    → (choice : List Bool) → IsDecidedChoice p choice
    → IsTrue answer ↔ IsMatchingChoice drawing (coordinates_of p.problem.grid) p.problem.blocks.numbers choice

-- numbers of lines, with those of all that are drawn among the first ones
pub record ListDrawn (sides : List Beside) (first : ℕ) (numbers : List ℕ) : Type 0 where
  pub there : Each (λ n. n < length sides) numbers
  pub all : (n : ℕ) → n < first → ((slice_index_or sides n no_side).style ≡ Blank → ⊥) → Member numbers n

-- the line of which the number stands at a place
abbrev pub line_at : List Beside → List ℕ → ℕ → Beside
line_at sides numbers i = slice_index_or sides (slice_index_or numbers i 0) no_side

-- the bytes of the styles of the lines of these numbers
abbrev pub AreStylesOf : List Beside → List ℕ → List ℕ → Type 0
AreStylesOf sides numbers bytes = (i : ℕ) → i < length numbers → slice_index_or bytes i 0 ≡ style_byte (line_at sides numbers i).style

-- of the first lines of these numbers, so many, these are the full cells of the columns after and before each
pub record ArePackedOf (columns : List KnownColumn) (sides : List Beside) (numbers : List ℕ) (count : ℕ) (after before : List ℕ) : Type 0 where
  pub after_is : (i : ℕ) → i < count → slice_index_or after i 0 ≡ (column_there columns (line_at sides numbers i).after).full
  pub before_is : (i : ℕ) → i < count → slice_index_or before i 0 ≡ (column_there columns (line_at sides numbers i).before).full

-- the full cells of the columns beside each line of these numbers draw its style
abbrev pub DrawTheirStyles : List KnownColumn → List Beside → List ℕ → Type 0
DrawTheirStyles columns sides numbers = (i : ℕ) → i < length numbers
    → ColumnsDraw (bits (column_there columns (line_at sides numbers i).after).full) (bits (column_there columns (line_at sides numbers i).before).full) (line_at sides numbers i).style

-- the lines of these that are drawn, each with its own style, and places for its two columns and for the style that they draw
pub record AreDrawnOf (sides : List Beside) (lines : DrawnLines) : Type 0 where
  pub lines_are : ListDrawn sides (length sides) lines.numbers.items
  pub after_count : length lines.after.items ≡ length lines.numbers.items
  pub before_count : length lines.before.items ≡ length lines.numbers.items
  pub drawn_count : length lines.drawn.items ≡ length lines.numbers.items
  pub wanted_count : length lines.wanted.items ≡ length lines.numbers.items
  pub wanted_is : AreStylesOf sides lines.numbers.items lines.wanted.items
