-- Numbers along the three axes.
use Rattle.std.specs.Prelude.{ℕ, ◌-◌, ◌≤◌}
use Rattle.solid_model.specs.declared.cell.Axis.{Axis}
use Rattle.solid_model.specs.declared.cell.Axis.TheVariants.{X, Y, Z}
use Rattle.solid_model.specs.declared.cell.Cell.{Cell}
use Rattle.solid_model.specs.declared.per_axis.PerAxis.{PerAxis}
use Rattle.solid_model.specs.Cells.{cell_at}

-- a number for each axis
abbrev pub by_axis : ℕ → ℕ → ℕ → Axis → ℕ
by_axis x y z X = x
by_axis x y z Y = y
by_axis x y z Z = z

-- those that are kept
abbrev pub numbers_of : PerAxis → Axis → ℕ
numbers_of n = by_axis n.x n.y n.z

-- the cell with these numbers
abbrev pub cell_of : PerAxis → Cell
cell_of n = cell_at n.x n.y n.z

-- the same with another number along an axis
abbrev pub numbered : Axis → ℕ → (Axis → ℕ) → Axis → ℕ
numbered X k n = by_axis k (n Y) (n Z)
numbered Y k n = by_axis (n X) k (n Z)
numbered Z k n = by_axis (n X) (n Y) k

-- how many gaps there are along each axis between so many coordinates
abbrev pub gaps_of : (Axis → ℕ) → Axis → ℕ
gaps_of counts a = counts a - 1

-- so few cells in each row of a box that all of them can be counted
abbrev pub AreFew : (Axis → ℕ) → Type 0
AreFew sizes = (a : Axis) → sizes a ≤ 1024
