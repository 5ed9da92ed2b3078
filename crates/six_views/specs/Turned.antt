-- Solids turned half round an axis, so that a view from the opposite side is the view itself.
use Rattle.std.specs.Prelude.{◌≡◌, Bool, true, false, ℕ, ◌+◌, ◌-◌, ◌<◌, List, [], ◌∷◌, ◌++◌, map, slice_index_or, ℤ, pos, neg_ℤ, ◌-ℤ◌, if◌then◌else◌}
use Rattle.solid_model.specs.declared.cell.Axis.{Axis}
use Rattle.solid_model.specs.declared.cell.Axis.TheVariants.{X, Z}
use Rattle.solid_model.specs.declared.cell.Cell.{Cell}
use Rattle.solid_model.specs.Cells.{coordinate, placed}
use Rattle.solid_model.specs.Edges.{second_axis, third_axis}
use Rattle.solid_model.specs.Grid.{Coordinates, GridCell, gaps_along}
use Rattle.solid_model.specs.WalledBoxes.{same_axis}
use Rattle.solid_model.specs.GridPlaces.{place_in}
use Rattle.column_lanes.specs.declared.column.Column.{Column}
use Rattle.columns.specs.ColumnLists.{AreColumns}
use Rattle.dxf_entities.specs.declared.layer.Layer.{Layer}
use Rattle.solid_model.specs.declared.frame.View.{View}
use Rattle.solid_model.specs.declared.frame.View.TheVariants.{Front, Top, Side}
use Rattle.six_views.specs.SightFrames.{sight_frame}

-- the mirror image of a cell, which fills k to k + 1 along an axis, in the plane at 0 across it: it fills -(k + 1) to -k
abbrev pub mirrored : Axis → Cell → Cell
mirrored a c = placed a (neg_ℤ (coordinate a c) -ℤ pos 1) c

-- a cell turned half round an axis: mirrored along the two others
abbrev pub half_turned : Axis → Cell → Cell
half_turned a c = mirrored (second_axis a) (mirrored (third_axis a) c)

-- the axis round which a solid is turned to be seen from the side opposite to a view's own: it runs upwards in the front and the
-- side view, and to the right in the top view
abbrev pub turn_axis : View → Axis
turn_axis Front = Z
turn_axis Top = X
turn_axis Side = Z

-- a cell as a layer sees it, in the view's own frame: turned half round where it is seen from the opposite side
abbrev pub turned_cell : Layer → Cell → Cell
turned_cell l c = if l.opposite then half_turned (turn_axis l.view) c else c

-- a solid, turned so
abbrev pub turned_cells : Layer → List Cell → List Cell
turned_cells l s = map (turned_cell l) s

-- along this axis a layer sees coordinates as they are, and not mirrored
abbrev pub stays : Layer → Axis → Bool
stays l a = if l.opposite then same_axis (turn_axis l.view) a else true

-- ---- grids that are turned

-- the coordinates of an axis, mirrored at 0: each with the other sign, from the last to the first
abbrev pub mirrored_places : List ℤ → List ℤ
mirrored_places [] = []
mirrored_places (z ∷ zs) = mirrored_places zs ++ neg_ℤ z ∷ []

-- the coordinates of a grid that is turned to be seen as a layer
abbrev pub turned_coordinates : Layer → Coordinates → Coordinates
turned_coordinates l coordinates a = if stays l a then coordinates a else mirrored_places (coordinates a)

-- the numbers of the grid cell that comes to one with these numbers: along axes that are mirrored they count from the other end
abbrev pub turned_numbers : Layer → (Axis → ℕ) → GridCell → GridCell
turned_numbers l sizes n a = if stays l a then n a else (sizes a - (n a + 1))

-- the second list chooses the grid cells that the first one chooses, turned
abbrev pub AreTurnedCells : Layer → (Axis → ℕ) → List Bool → List Bool → Type 0
AreTurnedCells l sizes chosen turned = (n : GridCell) → ((a : Axis) → n a < sizes a)
    → slice_index_or turned (place_in sizes n) false ≡ slice_index_or chosen (place_in sizes (turned_numbers l sizes n)) false

-- these are the columns of a grid's cells, seen as a layer, of which these are chosen
abbrev pub AreSightColumns : Layer → Coordinates → List Bool → List Column → Type 0
AreSightColumns l coordinates chosen columns = AreColumns (sight_frame l) (gaps_along coordinates) chosen columns
