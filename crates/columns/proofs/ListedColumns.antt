-- The columns of a view are listed one by one.
use Rattle.std.proofs.Common.{◌≡◌, Bool, ℕ, ◌+◌, ◌*◌, ◌/◌, ◌%◌, List, ℤ, ap, ◌∙◌, arith}
use Rattle.std.proofs.lemmas.Nat.{div-mul-add, mod-mul-add, mul-add-lt}
use Rattle.std.proofs.Math.Nat.{mul_comm}
use Rattle.solid_model.specs.declared.cell.Axis.{Axis}
use Rattle.solid_model.specs.declared.frame.Frame.{Frame}
use Rattle.column_lanes.specs.declared.column.Column.{Column}
use Rattle.column_laws.specs.GridColumns.{grid_column}
use Rattle.columns.specs.ColumnLists.{AreColumns}
use Rattle.lemmas.specs.Bits.{bits}
use Rattle.lemmas.proofs.Pushed.{HoldsSoFar}

module _ (f : Frame) (sizes : Axis → ℕ) (chosen : List Bool) where
  -- the column at a place of the list
  abbrev pub IsColumnAt : ℕ → ℕ → Column → Type 0
  IsColumnAt width p column = (k : ℤ) → bits column.0 k ≡ grid_column f sizes chosen (p % width) (p / width) k

  -- all of them
  pub all_columns : (columns : List Column) (width n : ℕ) → width ≡ sizes f.right.axis → n ≡ sizes f.up.axis * sizes f.right.axis
      → HoldsSoFar (IsColumnAt width) columns n → AreColumns f sizes chosen columns
  all_columns columns width n wide whole so_far = record {
    count = so_far.count ∙ whole;
    each = λ i j l m k.
        let w : ℕ = sizes f.right.axis in
        let within = mul-add-lt j w i (sizes f.up.axis) m l in
        so_far.each (j * w + i) record { 0 = 0 } (omega (arith, whole, mul_comm w (sizes f.up.axis))) k
        ∙ (λ t. grid_column f sizes chosen ((ap (λ x. (j * w + i) % x) wide ∙ mod-mul-add j w i l) t) ((ap (λ x. (j * w + i) / x) wide ∙ div-mul-add j w i l) t) k);
  }
