-- The columns of a view's grid cells, of which some are chosen.
use Rattle.std.specs.Prelude.{◌&&◌, Bool, false, ℕ, nat_lt, List, slice_index_or, ℤ, pos, negsuc}
use Rattle.solid_model.specs.declared.cell.Axis.{Axis}
use Rattle.solid_model.specs.declared.frame.Frame.{Frame}
use Rattle.solid_model.specs.GridPlaces.{place_in, grid_cell_in}

-- The column of grid cells at a place to the right and upwards, down to a depth: at each depth, 0 the nearest, the grid cell
-- there is chosen or not, and farther there is none.
abbrev pub column_to : ℕ → Frame → (Axis → ℕ) → List Bool → ℕ → ℕ → ℤ → Bool
column_to depth f sizes chosen i j (pos k) =
    nat_lt k depth && slice_index_or chosen (place_in sizes (grid_cell_in f sizes i j k)) false
column_to depth f sizes chosen i j (negsuc k) = false

-- the whole column
abbrev pub grid_column : Frame → (Axis → ℕ) → List Bool → ℕ → ℕ → ℤ → Bool
grid_column f sizes = column_to (sizes f.away.axis) f sizes
