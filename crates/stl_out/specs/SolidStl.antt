-- The STL text of a solid: that of its grid cells, on the grid of its own drawing.
use Rattle.std.specs.Prelude.{◌≡◌, Bool, ℕ, List}
use Rattle.face_laws.specs.GridFaces.{point_of_numbers, grid_planes}
use Rattle.solid_model.specs.declared.cell.Axis.{Axis}
use Rattle.solid_model.specs.declared.cell.Cell.{Cell}
use Rattle.solid_model.specs.Cells.{is_full}
use Rattle.solid_model.specs.DrawnStyle.{solid_drawing}
use Rattle.solid_model.specs.Grid.{Coordinates, AreGridCoordinates}
use Rattle.stl_out.specs.declared.rectangle.Rectangle.{Rectangle}
use Rattle.stl_out.specs.Rectangles.{AreRectanglesOf, all_triangles}
use Rattle.stl_out.specs.StlText.{stl_text}

-- a grid cell is full where the unit cell at its least corner is
abbrev pub grid_fullness : Coordinates → (Cell → Bool) → Cell → Bool
grid_fullness coordinates full n = full (point_of_numbers (grid_planes coordinates) n)

-- the text of a solid's triangles, between the grid coordinates of its own drawing
abbrev pub IsSolidStl : List Cell → List ℕ → Type 0
IsSolidStl s text = (coordinates : Coordinates) × ((a : Axis) → AreGridCoordinates (solid_drawing s) a (coordinates a))
    × (rs : List Rectangle) × AreRectanglesOf (grid_fullness coordinates (is_full s)) rs × (text ≡ stl_text (all_triangles (grid_planes coordinates) rs))
