-- Rectangles of which a grid has the numbers.
use Rattle.std.specs.Prelude.{List, length, ◌≤◌, ℤ, pos, ◌+ℤ◌, ◌≤ℤ◌, ◌<ℤ◌}
use Rattle.solid_model.specs.declared.cell.Axis.{Axis}
use Rattle.solid_model.specs.declared.cell.Cell.{Cell}
use Rattle.solid_model.specs.Cells.{coordinate}
use Rattle.solid_model.specs.Faces.{outward, right_axis, up_axis, place}
use Rattle.solid_model.specs.Grid.{Coordinates}
use Rattle.solid_model.specs.Limits.{most_grid_coordinates}
use Rattle.solid_model.specs.Rounds.{East, North, spot_after}
use Rattle.stl_out.specs.declared.rectangle_corners.Corners.{Corners}
use Rattle.stl_out.specs.declared.rectangle.Rectangle.{Rectangle}
use Rattle.stl_out.specs.Rectangles.{square_of}

-- a number, counted from 0, of one of some coordinates
abbrev pub IsGridNumber : List ℤ → ℤ → Type 0
IsGridNumber coordinates k = (pos 0 ≤ℤ k) × (k <ℤ pos (length coordinates))

-- a point's coordinates are of the grid, by their numbers
abbrev pub IsGridPoint : Coordinates → Cell → Type 0
IsGridPoint coordinates n = (a : Axis) → IsGridNumber (coordinates a) (coordinate a n)

-- the coordinates are as few as a grid may have
abbrev pub AreShort : Coordinates → Type 0
AreShort coordinates = (a : Axis) → length (coordinates a) ≤ most_grid_coordinates

-- a rectangle's plane and its sides stand at coordinates of the grid
pub record IsOfGrid (coordinates : Coordinates) (r : Rectangle) : Type 0 where
  pub at : IsGridNumber (coordinates (outward r.out).axis) r.at
  pub left : IsGridNumber (coordinates (right_axis r.out)) r.right
  pub right : IsGridNumber (coordinates (right_axis r.out)) (r.right +ℤ pos 1)
  pub below : IsGridNumber (coordinates (up_axis r.out)) r.up
  pub above : IsGridNumber (coordinates (up_axis r.out)) (r.up +ℤ pos 1)

-- the corners of a rectangle, by number, from the least one on, counterclockwise as seen from outside
abbrev pub corners_of : Rectangle → Corners
corners_of rectangle = record {
  p = place rectangle.out rectangle.at (square_of rectangle);
  q = place rectangle.out rectangle.at (spot_after East (square_of rectangle));
  r = place rectangle.out rectangle.at (spot_after North (spot_after East (square_of rectangle)));
  s = place rectangle.out rectangle.at (spot_after North (square_of rectangle));
}
