-- The view's own runs, moved, are the shown ones; where it has none it shows nothing.
use Rattle.std.proofs.Common.{◌≡◌, Bool, true, false, Some, None, w64, SFits, sym, ap, subst, ◌∙◌, rules}
use Rattle.std.proofs.lemmas.Bool.{false≢true}
use Rattle.std.proofs.lemmas.Int.{to_z-of_z}
use Rattle.solid_model.specs.Runs.{AreRuns, ViewRuns, runs_along}
use Rattle.six_views.specs.MovedRuns.{first_line}
use Rattle.six_views.proofs.ShownRuns.{shows_no_run, shows_moved}
use Rattle.six_views.proofs.fitting.shows_whole.Goals as goal

-- both kinds are runs
both_runs : (own seen : ViewRuns) → seen ≡ own → AreRuns seen.level → AreRuns seen.upright → (upright : Bool) → AreRuns (runs_along upright own)
both_runs own seen same level upright true = subst (λ (v : ViewRuns). AreRuns v.upright) same upright
both_runs own seen same level upright false = subst (λ (v : ViewRuns). AreRuns v.level) same level

pub returns-in_default : goal.returns-in_default
returns-in_default c = λ s union.
    let own : ViewRuns = c.in_ok-own.own in
    let runs = both_runs own _ c.own.view_is c.as_slice-level.ensures.kept c.as_slice-upright.ensures.kept in
    let none : first_line own.upright ≡ None = ap (λ (v : ViewRuns). first_line v.upright) (sym c.own.view_is)
    ∙ ap first_line (sym c.as_slice-upright.ensures.same) ∙ sym c.first_line.ensures ∙ c.in_default.is in
    ((λ f. absurd (false≢true f)), (λ shows. absurd (shows_no_run c.args.layer s own runs (c.in_ok-own.ensures s union) c.args.shown.now true none shows)))

pub returns-in_default-first_line : goal.returns-in_default-first_line
returns-in_default-first_line c = λ s union.
    let own : ViewRuns = c.in_ok-own.own in
    let runs = both_runs own _ c.own.view_is c.as_slice-level.ensures.kept c.as_slice-upright.ensures.kept in
    let none : first_line own.level ≡ None = ap (λ (v : ViewRuns). first_line v.level) (sym c.own.view_is)
    ∙ ap first_line (sym c.as_slice-level.ensures.same) ∙ sym c.first_line-2.ensures ∙ c.in_default-first_line.is in
    ((λ f. absurd (false≢true f)), (λ shows. absurd (shows_no_run c.args.layer s own runs (c.in_ok-own.ensures s union) c.args.shown.now false none shows)))

pub returns : goal.returns
returns c = λ s union.
    let own : ViewRuns = c.in_ok-own.own in
    let runs = both_runs own _ c.own.view_is c.as_slice-level.ensures.kept c.as_slice-upright.ensures.kept in
    let at_right : first_line own.upright ≡ Some c.in-Some.right = ap (λ (v : ViewRuns). first_line v.upright) (sym c.own.view_is)
    ∙ ap first_line (sym c.as_slice-upright.ensures.same) ∙ sym c.first_line.ensures ∙ c.in-Some.is in
    let at_up : first_line own.level ≡ Some c.in-Some-first_line.up = ap (λ (v : ViewRuns). first_line v.level) (sym c.own.view_is)
    ∙ ap first_line (sym c.as_slice-level.ensures.same) ∙ sym c.first_line-2.ensures ∙ c.in-Some-first_line.is in
    let right : SFits w64 c.in-Some.right = search rules in
    let up : SFits w64 c.in-Some-first_line.up = search rules in
    let told = rw (to_z-of_z w64 c.in-Some.right right, to_z-of_z w64 c.in-Some-first_line.up up) at c.views_are_moved.ensures.moved in
    let both = shows_moved c.args.layer s own runs (c.in_ok-own.ensures s union) c.args.shown.now c.in-Some.right c.in-Some-first_line.up at_right at_up c.views_are_moved.ensures.kept in
    ((λ yes. both.0 (told.0 yes)), (λ shows. told.1 (both.1 shows)))
