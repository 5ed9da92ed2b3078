-- Marks on the cells of a box.
use Rattle.std.specs.Prelude.{◌≡◌, ◌↔◌, ◌&&◌, Bool, false, List, length, slice_index_or, IsTrue}
use Rattle.solid_model.specs.declared.cell.Axis.{Axis}
use Rattle.solid_model.specs.declared.cell.Axis.TheVariants.{X, Y, Z}
use Rattle.solid_model.specs.declared.cell.Cell.{Cell}
use Rattle.solid_model.specs.declared.per_axis.PerAxis.{PerAxis}
use Rattle.solid_model.specs.PerAxis.{numbers_of, AreFew}
use Rattle.solid_model.specs.WalledBoxes.{Sizes, is_within, box_place, box_count}

-- a truth value for each cell of a box, z slowest and x fastest
pub record BoxMarks : Type 0 where
  pub sizes : PerAxis
  pub values : List Bool

-- as many of them as cells
pub record IsFull (m : BoxMarks) : Type 0 where
  pub few : AreFew (numbers_of m.sizes)
  pub listed : length m.values ≡ box_count (numbers_of m.sizes)

-- a cell of the box has a mark
abbrev pub is_marked : BoxMarks → Cell → Bool
is_marked m n = is_within (numbers_of m.sizes) n && slice_index_or m.values (box_place (numbers_of m.sizes) n) false

-- marks on the cells of a box of these sizes that have a property, and on no others of its cells
pub record AreMarksOf (sizes : Sizes) (P : Cell → Type 0) (m : BoxMarks) : Type 0 where
  pub sized : (a : Axis) → numbers_of m.sizes a ≡ sizes a
  pub exact : (n : Cell) → IsTrue (is_within sizes n) → IsTrue (is_marked m n) ↔ P n

-- marks for each axis
pub record AxisMarks : Type 0 where
  pub x : BoxMarks
  pub y : BoxMarks
  pub z : BoxMarks

-- those for an axis
abbrev pub marks_along : Axis → AxisMarks → BoxMarks
marks_along X m = m.x
marks_along Y m = m.y
marks_along Z m = m.z
