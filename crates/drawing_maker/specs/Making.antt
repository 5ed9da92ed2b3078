-- What is kept of a made solid.
use Rattle.std.specs.Prelude.{◌≡◌, Bool, ℕ, List, length}
use Rattle.solid_model.specs.Cells.{is_full}
use Rattle.solid_model.specs.DrawnStyle.{solid_drawing}
use Rattle.solid_model.specs.Grid.{IsUnionOf, grid_cell_count}
use Rattle.solid_model.specs.Panels.{GridParts, coordinates_of, IsGridOf}
use Rattle.drawing_maker.specs.Made.{made_solid}

-- the grid of its drawing, and which of the grid's cells it fills, z slowest and x fastest
pub record IsMade (n : ℕ) (g : GridParts) (chosen : List Bool) : Type 0 where
  pub grid : IsGridOf (solid_drawing (made_solid n)) g
  pub cells : IsUnionOf (coordinates_of g) chosen (is_full (made_solid n))
  pub count : length chosen ≡ grid_cell_count (coordinates_of g)
