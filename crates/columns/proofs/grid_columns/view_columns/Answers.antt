-- One column more; and all of them.
use Rattle.solid_model.specs.PerAxis.{numbers_of}
use Rattle.std.proofs.Common.{◌≡◌, ap₂, ◌*◌, ◌∙◌, arith}
use Rattle.columns.proofs.ListedColumns.{IsColumnAt, all_columns}
use Rattle.lemmas.proofs.Pushed.{holds_more}
use Rattle.columns.proofs.grid_columns.view_columns.Goals as goal

pub loop-place-preserved : goal.loop-place-preserved
loop-place-preserved c =
    holds_more (IsColumnAt c.args.frame (numbers_of c.args.sizes) c.args.cells.now c.along-width.result) c.loop-place.columns.items _ _ c.column_of.result
    c.loop-place.invariant c.column_of.ensures c.in_ok-push.ensures.items

pub returns : goal.returns
returns c =
    let whole : c.loop-place.place ≡ numbers_of c.args.sizes c.args.frame.up.axis * numbers_of c.args.sizes c.args.frame.right.axis =
    omega arith ∙ ap₂ ◌*◌ c.along-height.ensures c.along-width.ensures in
    all_columns c.args.frame (numbers_of c.args.sizes) c.args.cells.now c.loop-place.columns.items _ _ c.along-width.ensures whole c.loop-place.invariant
