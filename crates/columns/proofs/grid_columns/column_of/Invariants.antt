-- The column down to the depth so far.
use Rattle.solid_model.specs.PerAxis.{numbers_of}
use Rattle.std.proofs.Common.{◌≡◌, ℤ}
use Rattle.lemmas.specs.Bits.{bits}
use Rattle.column_laws.specs.GridColumns.{column_to}
use Rattle.columns.proofs.grid_columns.column_of.Given as goal

abbrev pub invariant-loop-depth : goal.invariant-loop-depth
invariant-loop-depth l = (k : ℤ) → bits l.column k ≡ column_to l.depth l.frame (numbers_of l.sizes) l.cells l.right l.up k
