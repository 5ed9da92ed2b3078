-- Grid cells of a view by their places, and their places in a list. Of a grid they look at the number of its cells along each
-- axis alone.
use Rattle.std.specs.Prelude.{◌+◌, ◌-◌, ◌*◌, ℕ, if◌then◌else◌}
use Rattle.solid_model.specs.declared.cell.Axis.{Axis}
use Rattle.solid_model.specs.declared.cell.Axis.TheVariants.{X, Y, Z}
use Rattle.solid_model.specs.declared.frame.Direction.{Direction}
use Rattle.solid_model.specs.declared.frame.Frame.{Frame}
use Rattle.solid_model.specs.Grid.{GridCell}
use Rattle.solid_model.specs.PerAxis.{by_axis, numbered}

-- the place of a grid cell in a list of all of them, where there are so many along each axis
abbrev pub place_in : (Axis → ℕ) → GridCell → ℕ
place_in sizes n = (n Z * sizes Y + n Y) * sizes X + n X

-- the number of the grid cell that stands at a place along a direction: backward, the last one stands at 0
abbrev pub number_on : (Axis → ℕ) → Direction → ℕ → ℕ
number_on sizes d k = if d.forward then k else (sizes d.axis - (k + 1))

-- the grid cell of a view at these places to the right, upwards and away
abbrev pub grid_cell_in : Frame → (Axis → ℕ) → ℕ → ℕ → ℕ → GridCell
grid_cell_in f sizes i j k =
    numbered f.right.axis (number_on sizes f.right i)
    (numbered f.up.axis (number_on sizes f.up j)
    (numbered f.away.axis (number_on sizes f.away k) (by_axis 0 0 0)))
