-- The runs of the front view are near.
use Rattle.std.proofs.Common.{true, false, sym, ap, subst, ◌∙◌}
use Rattle.solid_model.specs.declared.frame.View.TheVariants.{Front}
use Rattle.lemmas.specs.Lists.{Each}
use Rattle.solid_model.specs.Runs.{runs_along}
use Rattle.redraw.specs.GridRuns.{IsNearRun}
use Rattle.redraw.proofs.dxf.place_of.Goals as goal

pub beyond-beside-requires : goal.beyond-beside-requires
beyond-beside-requires c = subst (Each IsNearRun) (sym (c.along.ensures ∙ ap (runs_along true) c.view-front.ensures)) (c.requires Front true)

pub beyond-above-requires : goal.beyond-above-requires
beyond-above-requires c = subst (Each IsNearRun) (sym (c.along-2.ensures ∙ ap (runs_along false) c.view-front.ensures)) (c.requires Front false)
