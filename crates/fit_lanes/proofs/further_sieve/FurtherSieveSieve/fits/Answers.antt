-- A choice fits where its solid shows each layer.
use Rattle.std.proofs.Common.{◌≡◌, ◌↔◌, List, IsTrue, ◌∙◌, sym, subst}
use Rattle.std.specs.Prelude.{IfOk}
use Rattle.std.proofs.lemmas.Result.{IfOk-weaker}
use Rattle.lemmas.specs.Lists.{Each}
use Rattle.six_views.specs.Further.{FitsChoice, SieveParts}
use Rattle.fit_lanes.specs.Tests.{LayerAsked, ShowsIn, layers_asked}
use Rattle.fit_lanes.proofs.AllTold.{all_shown}
use Rattle.fit_lanes.proofs.further_sieve.FurtherSieveSieve.fits.Goals as goal

pub returns-clause-told : goal.returns-clause-told
returns-clause-told c =
    let p = c.self.inside.problem.now in let e = c.self.inside.further.now in let choice = c.args.choice.now in
    let both = all_shown p e choice in
    let tests : c.as_mut_slice.result.now ≡ layers_asked p e = c.as_mut_slice.ensures.value ∙ c.self.invariant in
    subst (λ (a : SieveParts). IfOk c.show_all.result (λ yes. IsTrue yes ↔ FitsChoice a.problem a.further choice)) c.self.view_is
    (IfOk-weaker c.show_all.result _ _ (λ yes told. (
      (λ y. both.0 (subst (λ (ls : List LayerAsked). Each (λ l. ShowsIn l choice) ls) tests (told.0 y))),
      (λ fits. told.1 (subst (λ (ls : List LayerAsked). Each (λ l. ShowsIn l choice) ls) (sym tests) (both.1 fits))),
    )) c.show_all.ensures.told)
