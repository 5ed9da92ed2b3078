-- The coordinates of a grid, before its panels are known.
use Rattle.std.specs.Prelude.{◌≤◌, List, length, ℤ}
use Rattle.solid_model.specs.declared.cell.Axis.{Axis}
use Rattle.solid_model.specs.declared.cell.Axis.TheVariants.{X, Y, Z}
use Rattle.solid_model.specs.declared.segment.Segment.{Segment}
use Rattle.solid_model.specs.declared.segment.Style.{Style}
use Rattle.solid_model.specs.Grid.{AreGridCoordinates}
use Rattle.solid_model.specs.Limits.{most_grid_coordinates}
use Rattle.grid.specs.declared.coordinates.Coordinates.{Coordinates}

-- those along an axis
abbrev pub coordinates_in : Coordinates → Axis → List ℤ
coordinates_in c X = c.xs.items
coordinates_in c Y = c.ys.items
coordinates_in c Z = c.zs.items

-- the grid coordinates of an axis, which are few enough
pub record AreFewCoordinates (drawing : Segment → Style) (a : Axis) (zs : List ℤ) : Type 0 where
  pub exact : AreGridCoordinates drawing a zs
  pub few : length zs ≤ most_grid_coordinates
