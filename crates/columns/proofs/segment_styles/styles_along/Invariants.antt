-- The styles so far.
use Rattle.solid_model.specs.PerAxis.{numbers_of}
use Rattle.std.specs.Prelude.{Bool, List}
use Rattle.columns.specs.ColumnLists.{AreColumns}
use Rattle.columns.proofs.GridStyles.{IsStyleAt}
use Rattle.lemmas.proofs.Pushed.{HoldsSoFar}
use Rattle.columns.proofs.segment_styles.styles_along.Given as goal

abbrev pub invariant-loop-place : goal.invariant-loop-place
invariant-loop-place l = (chosen : List Bool) → AreColumns l.frame (numbers_of l.sizes) chosen l.columns
    → HoldsSoFar (IsStyleAt l.frame (numbers_of l.sizes) chosen l.upright l.width) l.styles.items l.place
