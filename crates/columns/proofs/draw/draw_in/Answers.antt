-- The columns of each view draw its panel.
use Rattle.std.proofs.Common.{length, ap, ◌∙◌}
use Rattle.solid_model.specs.declared.frame.View.TheVariants.{Front, Top, Side}
use Rattle.columns.proofs.draw.draw_in.Goals as goal

pub panel-requires-clause-count : goal.panel-requires-clause-count
panel-requires-clause-count c = ap length c.view.ensures ∙ (c.in_ok-columns.ensures Front).count

pub panel-requires-2-clause-count : goal.panel-requires-2-clause-count
panel-requires-2-clause-count c = ap length c.view-2.ensures ∙ (c.in_ok-columns.ensures Top).count

pub panel-requires-3-clause-count : goal.panel-requires-3-clause-count
panel-requires-3-clause-count c = ap length c.view-3.ensures ∙ (c.in_ok-columns.ensures Side).count
