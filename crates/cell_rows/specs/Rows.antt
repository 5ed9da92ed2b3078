-- The rows of a box of marked cells, as numbers whose bits are the cells.
use Rattle.std.specs.Prelude.{◌≡◌, ◌≤◌, ◌<◌, ◌*◌, ◌/◌, ◌%◌, Bool, ℕ, List, length, map, slice_index_or, IsTrue}
use Rattle.std.specs.List.{range_with_len}
use Rattle.solid_model.specs.declared.cell.Axis.{Axis}
use Rattle.solid_model.specs.declared.cell.Axis.TheVariants.{X, Y, Z}
use Rattle.solid_model.specs.declared.cell.Cell.{Cell}
use Rattle.solid_model.specs.declared.per_axis.PerAxis.{PerAxis}
use Rattle.lemmas.specs.Bits.{is_set}
use Rattle.solid_model.specs.Cells.{cell_at}
use Rattle.solid_model.specs.Marks.{BoxMarks, is_marked}
use Rattle.solid_model.specs.PerAxis.{numbers_of, numbered}
use Rattle.solid_model.specs.WalledBoxes.{Sizes, is_within, box_place, box_count}

-- the cell with another number along an axis
abbrev pub cell_numbered : Axis → ℕ → PerAxis → Cell
cell_numbered X k n = cell_at k n.y n.z
cell_numbered Y k n = cell_at n.x k n.z
cell_numbered Z k n = cell_at n.x n.y k

-- of the row of a cell along an axis, that of number k has a mark
abbrev pub is_marked_at : BoxMarks → Axis → PerAxis → ℕ → Bool
is_marked_at m a n k = is_marked m (cell_numbered a k n)

-- how far apart neighbours along an axis stand in a list of all cells
abbrev pub stride_along : Sizes → Axis → ℕ
stride_along sizes X = 1
stride_along sizes Y = sizes X
stride_along sizes Z = sizes Y * sizes X

-- a box of one cell along the axis: each of its cells stands for a row
abbrev pub row_sizes : BoxMarks → Axis → Sizes
row_sizes m a = numbered a 1 (numbers_of m.sizes)

-- a number for each row along an axis, whose bits are the cells of the row
pub record AreRows (m : BoxMarks) (a : Axis) (rows : List ℕ) : Type 0 where
  pub listed : length rows ≡ box_count (row_sizes m a)
  pub each : (n : PerAxis) → IsTrue (is_within (row_sizes m a) (cell_numbered a 0 n)) → (k : ℕ) → k < 64
      → is_set (slice_index_or rows (box_place (row_sizes m a) (cell_numbered a 0 n)) 0) k ≡ is_marked_at m a n k

-- those along all axes, none of which has more than 63 cells
pub record AreAllRows (m : BoxMarks) (x y z : List ℕ) : Type 0 where
  pub few : (a : Axis) → numbers_of m.sizes a ≤ 63
  pub along_x : AreRows m X x
  pub along_y : AreRows m Y y
  pub along_z : AreRows m Z z

-- the marks of all cells of a box, as its rows along the x axis tell them
unfoldable pub values_by_rows : Sizes → List ℕ → List Bool
values_by_rows sizes rows =
    map (λ p. is_set (slice_index_or rows (p / sizes X) 0) (p % sizes X)) (range_with_len 0 (box_count sizes))

abbrev pub marks_by_rows : PerAxis → List ℕ → BoxMarks
marks_by_rows sizes rows = record { sizes = sizes; values = values_by_rows (numbers_of sizes) rows }
