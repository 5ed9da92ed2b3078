-- The columns so far.
use Rattle.solid_model.specs.PerAxis.{numbers_of}
use Rattle.columns.proofs.ListedColumns.{IsColumnAt}
use Rattle.lemmas.proofs.Pushed.{HoldsSoFar}
use Rattle.columns.proofs.grid_columns.view_columns.Given as goal

abbrev pub invariant-loop-place : goal.invariant-loop-place
invariant-loop-place l = HoldsSoFar (IsColumnAt l.frame (numbers_of l.sizes) l.cells l.width) l.columns.items l.place
