-- Cells, and solids as finite sets of cells.
use Rattle.std.specs.Prelude.{◌≡◌, Bool, false, ◌&&◌, ◌||◌, List, [], ◌∷◌, ℕ, ℤ, pos, ◌+ℤ◌, ◌-ℤ◌}
use Rattle.std.specs.Ordering.{int_eq}
use Rattle.solid_model.specs.declared.cell.Axis.{Axis}
use Rattle.solid_model.specs.declared.cell.Axis.TheVariants.{X, Y, Z}
use Rattle.solid_model.specs.declared.cell.Cell.{Cell}

-- the coordinate of a cell, or of a whole point, along an axis
abbrev pub coordinate : Axis → Cell → ℤ
coordinate X c = c.x
coordinate Y c = c.y
coordinate Z c = c.z

-- the cell, or the point, at these coordinates
abbrev pub cell_at : ℕ → ℕ → ℕ → Cell
cell_at x y z = record { x = pos x; y = pos y; z = pos z }

-- the cell with another coordinate along an axis
abbrev pub placed : Axis → ℤ → Cell → Cell
placed X k c = record c { x = k }
placed Y k c = record c { y = k }
placed Z k c = record c { z = k }

-- the neighbour before a cell along an axis
abbrev pub cell_before : Axis → Cell → Cell
cell_before a c = placed a (coordinate a c -ℤ pos 1) c

-- and the one after it
abbrev pub cell_after : Axis → Cell → Cell
cell_after a c = placed a (coordinate a c +ℤ pos 1) c

-- two names of one cell
abbrev pub same_cell : Cell → Cell → Bool
same_cell a b = int_eq a.x b.x && (int_eq a.y b.y && int_eq a.z b.z)

-- A solid is given by a list of its cells; order and repeats don't matter. This tells the full cells from the empty ones.
abbrev pub is_full : List Cell → Cell → Bool
is_full [] c = false
is_full (x ∷ xs) c = same_cell x c || is_full xs c

-- a solid has a cell
abbrev pub IsSolid : List Cell → Type 0
IsSolid [] = ⊥
IsSolid (c ∷ cs) = Unit {0}

-- two lists give one solid
abbrev pub SameCells : List Cell → List Cell → Type 0
SameCells s t = (c : Cell) → is_full s c ≡ is_full t c
