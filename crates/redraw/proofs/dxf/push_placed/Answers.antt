-- The runs of the view are near.
use Rattle.std.proofs.Common.{true, false, sym, subst}
use Rattle.lemmas.specs.Lists.{Each}
use Rattle.solid_model.specs.Runs.{ViewRuns}
use Rattle.redraw.specs.GridRuns.{IsNearRun}
use Rattle.redraw.proofs.dxf.push_placed.Goals as goal

pub push_view-requires-clause-level : goal.push_view-requires-clause-level
push_view-requires-clause-level c = subst (λ (v : ViewRuns). Each IsNearRun v.level) (sym c.view.ensures) (c.requires.near c.args.view false)

pub push_view-requires-clause-upright : goal.push_view-requires-clause-upright
push_view-requires-clause-upright c = subst (λ (v : ViewRuns). Each IsNearRun v.upright) (sym c.view.ensures) (c.requires.near c.args.view true)
