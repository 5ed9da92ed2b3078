-- Small solids, for drawings that are written out.
use Rattle.std.specs.Prelude.{Bool, List, [], ◌∷◌, ℤ, pos, negsuc}
use Rattle.solid_model.specs.declared.cell.Cell.{Cell}
use Rattle.solid_model.specs.declared.frame.View.{View}
use Rattle.solid_model.specs.declared.frame.View.TheVariants.{Front, Top, Side}
use Rattle.solid_model.specs.declared.segment.Segment.{Segment}
use Rattle.solid_model.specs.declared.segment.Style.{Style}
use Rattle.solid_model.specs.declared.segment.Style.TheVariants.{Blank, Solid}
use Rattle.solid_model.specs.Cells.{cell_at}
use Rattle.solid_model.specs.DrawnStyle.{segment_styles}

abbrev pub unit_cube : List Cell
unit_cube = cell_at 0 0 0 ∷ []

-- two cubes that touch along an upright edge
abbrev pub cubes_along_edge : List Cell
cubes_along_edge = cell_at 0 0 0 ∷ cell_at 1 1 0 ∷ []

-- a cube, one to its right and one behind it
abbrev pub three_cubes : List Cell
three_cubes = cell_at 0 0 0 ∷ cell_at 1 0 0 ∷ cell_at 0 1 0 ∷ []

-- Two cubes side by side and a third one behind the first, or before it, as a view sees it: the edge between the two is
-- hidden, or seen.
abbrev pub third_behind : View → List Cell
third_behind Front = cell_at 0 0 0 ∷ cell_at 1 0 0 ∷ cell_at 0 1 0 ∷ []
third_behind Top = cell_at 0 0 1 ∷ cell_at 1 0 1 ∷ cell_at 0 0 0 ∷ []
third_behind Side = cell_at 1 0 0 ∷ cell_at 1 1 0 ∷ cell_at 0 0 0 ∷ []

abbrev pub third_before : View → List Cell
third_before Front = cell_at 0 1 0 ∷ cell_at 1 1 0 ∷ cell_at 0 0 0 ∷ []
third_before Top = cell_at 0 0 0 ∷ cell_at 1 0 0 ∷ cell_at 0 0 1 ∷ []
third_before Side = cell_at 0 0 0 ∷ cell_at 0 1 0 ∷ cell_at 1 0 0 ∷ []

-- the three solids that show a square in four quarters in every view: five cubes, and two ways to have four
abbrev pub five_of_eight : List Cell
five_of_eight = cell_at 0 0 0 ∷ cell_at 0 1 0 ∷ cell_at 1 1 0 ∷ cell_at 1 0 1 ∷ cell_at 0 1 1 ∷ []

abbrev pub four_of_eight : List Cell
four_of_eight = cell_at 0 0 0 ∷ cell_at 1 1 0 ∷ cell_at 1 0 1 ∷ cell_at 0 1 1 ∷ []

abbrev pub other_four_of_eight : List Cell
other_four_of_eight = cell_at 1 0 0 ∷ cell_at 0 1 0 ∷ cell_at 0 0 1 ∷ cell_at 1 1 1 ∷ []

-- the eight cells of that cube, in the order of cells
abbrev pub eight_cells : List Cell
eight_cells = cell_at 0 0 0 ∷ cell_at 1 0 0 ∷ cell_at 0 1 0 ∷ cell_at 1 1 0
    ∷ cell_at 0 0 1 ∷ cell_at 1 0 1 ∷ cell_at 0 1 1 ∷ cell_at 1 1 1 ∷ []

-- the whole numbers from -1 to 2
abbrev pub near_zero : List ℤ
near_zero = negsuc 0 ∷ pos 0 ∷ pos 1 ∷ pos 2 ∷ []

-- the styles of the level, or the upright, segments of a view on the lines from -1 to 2, that begin at the places from -1 to 2
abbrev pub styles_near_zero : (Segment → Style) → View → Bool → List (List Style)
styles_near_zero drawing v upright = segment_styles drawing v upright near_zero near_zero

-- four blank segments
abbrev pub none_drawn : List Style
none_drawn = Blank ∷ Blank ∷ Blank ∷ Blank ∷ []

-- the level segments, and the upright ones, of a square in four quarters
abbrev pub four_quarters : List (List Style)
four_quarters = none_drawn
    ∷ (Blank ∷ Solid ∷ Solid ∷ Blank ∷ [])
    ∷ (Blank ∷ Solid ∷ Solid ∷ Blank ∷ [])
    ∷ (Blank ∷ Solid ∷ Solid ∷ Blank ∷ []) ∷ []
