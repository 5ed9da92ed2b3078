-- Columns of cells along the sight axis of a view, from depth to depth.
use Rattle.std.specs.Prelude.{◌≡◌, ◌≢◌, ◌↔◌, Bool, false, ℤ, pos, ◌-ℤ◌, ◌<ℤ◌, IsTrue}
use Rattle.solid_model.specs.declared.cell.Cell.{Cell}
use Rattle.solid_model.specs.declared.frame.Frame.{Frame}
use Rattle.solid_model.specs.declared.segment.Segment.{Segment}
use Rattle.solid_model.specs.declared.segment.Style.{Style}
use Rattle.solid_model.specs.declared.segment.Style.TheVariants.{Blank, Dashed, Solid}
use Rattle.solid_model.specs.Frames.{cell_on, along, across, at_places}
use Rattle.solid_model.specs.Segments.{start_of, line_of}

-- the cell of a view at these places along and across the segments of a kind, k cells away from depth 0
abbrev pub cell_in : Frame → Bool → ℤ → ℤ → ℤ → Cell
cell_in f upright i j k = at_places
    (along f upright).axis (cell_on (along f upright) i)
    (across f upright).axis (cell_on (across f upright) j)
    f.away.axis (cell_on f.away k)

-- the column that stands beside a segment's stretch, at the place j across it: at each depth a cell, full or empty
abbrev pub column_at : Frame → (Cell → Bool) → Segment → ℤ → ℤ → Bool
column_at f full g j k = full (cell_in f g.upright (start_of g) j k)

-- the two columns beside a segment: the one after its line, which begins at the line's place,
abbrev pub column_after : Frame → (Cell → Bool) → Segment → ℤ → Bool
column_after f full g = column_at f full g (line_of g)

-- and the one before it
abbrev pub column_before : Frame → (Cell → Bool) → Segment → ℤ → Bool
column_before f full g = column_at f full g (line_of g -ℤ pos 1)

-- k is the first full depth of a column
abbrev pub IsFirstFull : (ℤ → Bool) → ℤ → Type 0
IsFirstFull column k = IsTrue (column k) × ((n : ℤ) → n <ℤ k → column n ≡ false)

-- two columns have the same first full depth, or neither has one
abbrev pub HaveSameFirstFull : (ℤ → Bool) → (ℤ → Bool) → Type 0
HaveSameFirstFull a b = (k : ℤ) → IsFirstFull a k ↔ IsFirstFull b k

-- The style that two columns draw between them. Blank: they are equal. Dashed: they differ, and have the same first full depth.
-- Solid: their first full depths differ; a column that is never full has none.
abbrev pub ColumnsDraw : (ℤ → Bool) → (ℤ → Bool) → Style → Type 0
ColumnsDraw a b Blank = (k : ℤ) → a k ≡ b k
ColumnsDraw a b Dashed = ((k : ℤ) × (a k ≢ b k)) × HaveSameFirstFull a b
ColumnsDraw a b Solid = HaveSameFirstFull a b → ⊥
