-- Boxes of cells with walls between them, and their enclosed components. Cells beyond a box have numbers too, those below 0
-- and those from its size on: so a chain that leads out simply ends at a cell that isn't of the box. The faces across an axis
-- are counted as the cells of a box likewise, so that what leads out is one definition for faces and cells.
use Rattle.std.specs.Prelude.{◌≡◌, ◌⊎◌, ◌↔◌, Bool, true, false, ◌&&◌, ℕ, suc, nat_lt, ◌+◌, ◌*◌, ◌<◌, List, length, slice_index_or, Option, Some, None, ℤ, pos, negsuc, IsTrue, if◌then◌else◌}
use Rattle.solid_model.specs.declared.cell.Axis.{Axis}
use Rattle.solid_model.specs.declared.cell.Axis.TheVariants.{X, Y, Z}
use Rattle.solid_model.specs.declared.cell.Cell.{Cell}
use Rattle.solid_model.specs.Cells.{cell_before}
use Rattle.lemmas.specs.Chains.{Reaches}
use Rattle.solid_model.specs.Orders.{ComesBefore}

-- ---- boxes

-- how many cells of a box stand in a row along each axis
abbrev pub Sizes : Type 0
Sizes = Axis → ℕ

-- k is one of the first n numbers from 0 on
abbrev pub is_below : ℕ → ℤ → Bool
is_below n (pos k) = nat_lt k n
is_below n (negsuc k) = false

-- a cell stands in the box from (0, 0, 0) of these sizes; every other one stands outside
abbrev pub is_within : Sizes → Cell → Bool
is_within sizes n = is_below (sizes X) n.x && (is_below (sizes Y) n.y && is_below (sizes Z) n.z)

-- a number as the place of a list; 0 where it is negative
abbrev pub place_of_number : ℤ → ℕ
place_of_number (pos k) = k
place_of_number (negsuc k) = 0

-- the place of a cell in a list of all cells of the box, z slowest and x fastest
abbrev pub box_place : Sizes → Cell → ℕ
box_place sizes n = (place_of_number n.z * sizes Y + place_of_number n.y) * sizes X + place_of_number n.x

-- how many there are
abbrev pub box_count : Sizes → ℕ
box_count sizes = sizes Z * sizes Y * sizes X

-- two names of one axis
abbrev pub same_axis : Axis → Axis → Bool
same_axis X X = true
same_axis Y Y = true
same_axis Z Z = true
same_axis _ _ = false

-- The faces across an axis, of the cells of a box: one before each cell, and one behind the last of each row. The face
-- before the cell n has the number n too.
abbrev pub face_sizes : Sizes → Axis → Sizes
face_sizes sizes a b = if same_axis a b then suc (sizes b) else sizes b

-- ---- walls

-- Walls, some of the faces between cells: whether one stands before a cell along an axis.
abbrev pub Walls : Type 1
Walls = Axis → Cell → Type 0

-- one step leads from a cell to a neighbour, and no wall stands between the two
abbrev pub Passes : Walls → Cell → Cell → Type 0
Passes wall n m = (a : Axis)
    × (((m ≡ cell_before a n) × (wall a n → ⊥)) ⊎ ((n ≡ cell_before a m) × (wall a m → ⊥)))

-- a chain of such steps leads from a cell out of the box
abbrev pub LeadsOut : Sizes → Walls → Cell → Type 0
LeadsOut sizes wall n = (m : Cell) × Reaches (Passes wall) n m × (is_within sizes m ≡ false)

-- ---- enclosed components

-- the number that a list of all cells of the box has for a cell
abbrev pub number_at : Sizes → List (Option ℕ) → Cell → Option ℕ
number_at sizes numbers n = slice_index_or numbers (box_place sizes n) None

-- a cell has no number, or one below this: it is in no enclosed component, or in an earlier one
abbrev pub IsEarlier : ℕ → Option ℕ → Type 0
IsEarlier k None = Unit {0}
IsEarlier k (Some l) = l < k

-- Cells from which no chain leads out, and which chains join with one another, are an enclosed component. Each cell has the
-- number of its own, or none. They are numbered from 0 by their first cells: what stands before such a cell is in none, or in
-- an earlier one.
pub record AreEnclosed (sizes : Sizes) (wall : Walls) (numbers : List (Option ℕ)) (count : ℕ) : Type 0 where
  pub listed : length numbers ≡ box_count sizes
  pub outside : (n : Cell) → IsTrue (is_within sizes n) → (number_at sizes numbers n ≡ None) ↔ LeadsOut sizes wall n
  pub joined : (n m : Cell) → IsTrue (is_within sizes n) → IsTrue (is_within sizes m) → (LeadsOut sizes wall n → ⊥)
      → (number_at sizes numbers n ≡ number_at sizes numbers m) ↔ Reaches (Passes wall) n m
  pub below : (n : Cell) (k : ℕ) → IsTrue (is_within sizes n) → number_at sizes numbers n ≡ Some k → k < count
  pub first : (k : ℕ) → k < count → (n : Cell) × IsTrue (is_within sizes n) × (number_at sizes numbers n ≡ Some k)
      × ((m : Cell) → IsTrue (is_within sizes m) → ComesBefore m n → IsEarlier k (number_at sizes numbers m))
