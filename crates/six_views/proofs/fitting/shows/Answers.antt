-- Whole, or cut.
use Rattle.std.proofs.Common.{◌↔◌, IsTrue, Option, sym, subst}
use Rattle.std.proofs.lemmas.Result.{IfOk-weaker}
use Rattle.dxf_entities.specs.declared.layer.Cut.{Cut}
use Rattle.further_views.specs.Further.{view_style}
use Rattle.six_views.specs.Fits.{ShowsCut}
use Rattle.six_views.specs.SightFrames.{sight_frame}
use Rattle.six_views.proofs.fitting.shows.Goals as goal

pub returns-in-Some : goal.returns-in-Some
returns-in-Some c = IfOk-weaker c.shows_left.result _ _
    (λ yes told s union. subst (λ (cut : Option Cut). IsTrue yes ↔ ShowsCut cut (sight_frame c.args.layer) s (view_style c.args.shown.now) c.args.layer.view) (sym c.in-Some.is) (told s union))
    c.shows_left.ensures

pub returns-in-None : goal.returns-in-None
returns-in-None c = IfOk-weaker c.shows_whole.result _ _
    (λ yes told s union. subst (λ (cut : Option Cut). IsTrue yes ↔ ShowsCut cut (sight_frame c.args.layer) s (view_style c.args.shown.now) c.args.layer.view) (sym c.in-None.is) (told s union))
    c.shows_whole.ensures
