-- A small solid without symmetry, to check sections by hand.
use Rattle.std.specs.Prelude.{Bool, List, [], ◌∷◌, ℤ}
use Rattle.solid_model.specs.declared.cell.Cell.{Cell}
use Rattle.solid_model.specs.declared.frame.View.{View}
use Rattle.solid_model.specs.declared.segment.Style.{Style}
use Rattle.solid_model.specs.Cells.{cell_at}
use Rattle.solid_model.specs.DrawnStyle.{drawn_style}
use Rattle.solid_model.specs.Frames.{frame_of}
use Rattle.solid_model.specs.Segments.{segment_at}
use Rattle.section_laws.specs.Sections.{rest_behind, cut_area, visible_style}

-- a bar of three cells along x, with one cell on its first one, and one behind its last
abbrev pub stepped_bar : List Cell
stepped_bar = cell_at 0 0 0 ∷ cell_at 1 0 0 ∷ cell_at 2 0 0 ∷ cell_at 0 0 1 ∷ cell_at 2 1 0 ∷ []

-- what it shows in a view at the segment that begins at a place on a line, cut at a plane across the sight
abbrev pub section_in : View → ℤ → Bool → ℤ → ℤ → Style
section_in v plane upright start line = visible_style (drawn_style (frame_of v) (rest_behind (frame_of v) plane stepped_bar) (segment_at v upright start line))

-- and what the cut area shows there
abbrev pub area_in : View → ℤ → Bool → ℤ → ℤ → Style
area_in v plane upright start line = drawn_style (frame_of v) (cut_area (frame_of v) plane stepped_bar) (segment_at v upright start line)
