-- Lists of the columns of a view's grid cells.
use Rattle.std.specs.Prelude.{◌≡◌, ◌+◌, ◌*◌, ◌<◌, Bool, ℕ, List, length, slice_index_or, ℤ}
use Rattle.solid_model.specs.declared.cell.Axis.{Axis}
use Rattle.solid_model.specs.declared.frame.Frame.{Frame}
use Rattle.solid_model.specs.declared.per_view.PerView.{PerView}
use Rattle.column_lanes.specs.declared.column.Column.{Column}
use Rattle.column_laws.specs.GridColumns.{grid_column}
use Rattle.lemmas.specs.Bits.{bits}

-- the column at a place of a list of a view's columns, which stand by place upwards, then to the right
abbrev pub listed_column : Frame → (Axis → ℕ) → List Column → ℕ → ℕ → ℤ → Bool
listed_column f sizes columns i j =
    bits (slice_index_or columns (j * sizes f.right.axis + i) record { 0 = 0 }).0

-- these are the columns of a view's grid cells, of which these are chosen
pub record AreColumns (f : Frame) (sizes : Axis → ℕ) (chosen : List Bool) (columns : List Column) : Type 0 where
  pub count : length columns ≡ sizes f.up.axis * sizes f.right.axis
  pub each : (i j : ℕ) → i < sizes f.right.axis → j < sizes f.up.axis
      → (k : ℤ) → listed_column f sizes columns i j k ≡ grid_column f sizes chosen i j k

-- the columns of three views
abbrev pub ColumnLists : Type 0
ColumnLists = PerView (List Column)
