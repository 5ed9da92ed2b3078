-- What is true of the cells of a box with walls, as words: a word is a row of cells along x, and bit k of it its cell of number k.
use Rattle.std.specs.Prelude.{◌≡◌, ◌||◌, ◌&&◌, not, Bool, ℕ, nat_lt, ◌+◌, ◌*◌, ◌/◌, ◌%◌, ◌<◌, List, length}
use Rattle.solid_model.specs.declared.cell.Axis.{Axis}
use Rattle.solid_model.specs.declared.cell.Axis.TheVariants.{X, Y, Z}
use Rattle.solid_model.specs.declared.cell.Cell.{Cell}
use Rattle.solid_model.specs.Cells.{cell_at, cell_before, cell_after}
use Rattle.solid_model.specs.WalledBoxes.{Sizes, is_within, place_of_number}
use Rattle.flood.specs.declared.row_words.Told.{Told}
use Rattle.flood.specs.declared.row_words.Told.TheVariants.{OpensBack, LeadsOut}
use Rattle.flood.specs.RowFlood.{has_cell}

-- nothing stands between a cell and the one before it in the box
abbrev pub opens_back : Sizes → (Axis → Cell → Bool) → Axis → Cell → Bool
opens_back sizes stands a n = is_within sizes (cell_before a n) && not (stands a n)

-- both neighbours of a cell along an axis are in the box
abbrev pub is_inner : Sizes → Axis → Cell → Bool
is_inner sizes a n = is_within sizes (cell_before a n) && is_within sizes (cell_after a n)

-- nothing stands between a cell and one outside, along an axis
abbrev pub opens_out : Sizes → (Axis → Cell → Bool) → Axis → Cell → Bool
opens_out sizes stands a n = (not (is_within sizes (cell_before a n)) && not (stands a n))
    || (not (is_within sizes (cell_after a n)) && not (stands a (cell_after a n)))

-- or along any
abbrev pub leads_at_once : Sizes → (Axis → Cell → Bool) → Cell → Bool
leads_at_once sizes stands n = opens_out sizes stands X n || (opens_out sizes stands Y n || opens_out sizes stands Z n)

-- what is told of a cell
abbrev pub is_told : Sizes → (Axis → Cell → Bool) → Told → Cell → Bool
is_told sizes stands (OpensBack a) n = opens_back sizes stands a n
is_told sizes stands LeadsOut n = leads_at_once sizes stands n

-- the bit of a row for a number: what is true of its cell
abbrev pub row_bit : Sizes → (Cell → Bool) → ℕ → ℕ → ℕ → Bool
row_bit sizes holds y z k = nat_lt k (sizes X) && holds (cell_at k y z)

-- the words of all rows: of each row what is true of its cells
pub record AreRowWords (sizes : Sizes) (holds : Cell → Bool) (words : List ℕ) : Type 0 where
  pub listed : length words ≡ sizes Z * sizes Y
  pub each : (r : ℕ) → r < sizes Z * sizes Y → (k : ℕ) → has_cell words r k ≡ row_bit sizes holds (r % sizes Y) (r / sizes Y) k

-- the row of a cell of the box
abbrev pub row_of : Sizes → Cell → ℕ
row_of sizes n = place_of_number n.z * sizes Y + place_of_number n.y

-- rows have a cell of the box
abbrev pub is_in_rows : Sizes → List ℕ → Cell → Bool
is_in_rows sizes rows n = has_cell rows (row_of sizes n) (place_of_number n.x)
