-- The view is that of the layer, and what it has to show is runs.
use Rattle.std.proofs.Common.{ap, sym, subst}
use Rattle.dxf_entities.specs.declared.layer.Layer.{Layer}
use Rattle.further_views.specs.Further.{AskedRuns}
use Rattle.solid_model.specs.Panels.{coordinates_of}
use Rattle.fit_lanes.specs.Cuts.{LayerKeeps}
use Rattle.fit_lanes.specs.Drawn.{IsViewOf}
use Rattle.fit_lanes.specs.Tests.{AreRunsAsked, LayerAsked}
use Rattle.fit_lanes.specs.Wanted.{WantedParts}
use Rattle.fit_lanes.proofs.view_test.ViewTest.of.Goals as goal

pub of-requires-clause-kept : goal.of-requires-clause-kept
of-requires-clause-kept c = subst (λ (a : AskedRuns). LayerKeeps (coordinates_of c.args.problem.now.grid) a.layer c.args.kept) (sym c.asked.view_is) c.requires.kept

pub invariant_of-result : goal.invariant_of-result
invariant_of-result c =
    let asked = ap (λ (w : WantedParts). w.asked) c.in_ok-wanted.ensures in (
      subst (λ (a : LayerAsked). IsViewOf a.problem a.asked.layer c.in_ok-view.view) (sym asked)
          (subst (λ (l : Layer). IsViewOf c.args.problem.now l c.in_ok-view.view) (ap (λ (a : AskedRuns). a.layer) c.asked.view_is) c.in_ok-view.ensures),
      subst AreRunsAsked (sym asked) c.known.ensures,
    )

pub returns : goal.returns
returns c = ap (λ (w : WantedParts). w.asked) c.in_ok-wanted.ensures
