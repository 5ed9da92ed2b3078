-- Of a layer without a cut all depths are kept.
use Rattle.std.proofs.Common.{◌≡◌, ◌∙◌, Option, Some, ap, sym, subst}
use Rattle.std.specs.Prelude.{IfSome}
use Rattle.solid_model.specs.Panels.{GridParts, coordinates_of}
use Rattle.further_views.specs.Further.{AskedRuns}
use Rattle.fit_lanes.specs.Cuts.{KeepsDepths}
use Rattle.fit_lanes.proofs.layer_test.fast_test.Goals as goal

-- what holds of whatever there is holds of this
some_is : {A : Type 0} (o : Option A) (P : A → Type 0) (a : A) → o ≡ Some a → IfSome o P → P a
some_is o P a is held = subst (λ p. IfSome p P) is held

pub of-requires-clause-kept : goal.of-requires-clause-kept
of-requires-clause-kept c = ap (λ (a : AskedRuns). a.layer.cut) (sym c.asked.view_is) ∙ c.in_default.is

pub of-requires-2-clause-kept : goal.of-requires-2-clause-kept
of-requires-2-clause-kept c = (
  c.in-Some.cut,
  ap (λ (a : AskedRuns). a.layer.cut) (sym c.asked.view_is) ∙ c.in-Some.is,
  subst (λ (a : AskedRuns). KeepsDepths (coordinates_of c.args.problem.now.grid) a.layer c.in-Some.cut c.in-Some-kept_depths.kept) c.asked.view_is
      (subst (λ (g : GridParts). KeepsDepths (coordinates_of g) c.asked.inside.layer c.in-Some.cut c.in-Some-kept_depths.kept) c.grid.ensures.grid
      (some_is c.kept_depths.result _ c.in-Some-kept_depths.kept c.in-Some-kept_depths.is c.kept_depths.ensures)),
)
