use Rattle.std.proofs.Common.{◌≡◌, ◌++◌, ◌↔◌, ◌⊎◌, ℤ, not, ◌∙◌, sym, ap, ap₂, subst, rules}
use Rattle.std.proofs.lemmas.Result.{IfOk-weaker}
use Rattle.solid_model.specs.declared.frame.Direction.{Direction}
use Rattle.solid_model.specs.Frames.{along}
use Rattle.lemmas.specs.Lists.{Member}
use Rattle.solid_model.specs.Runs.{AreRuns, style_in, runs_along}
use Rattle.solid_model.specs.PerView.{of_view}
use Rattle.grid.specs.Positions.{ends_of, run_lines, ShowsByKind}
use Rattle.grid.proofs.ShownPositions.{with_shown}
use Rattle.grid.proofs.positions.with_kind.Goals as goal

pub returns-clause-shown : goal.returns-clause-shown
returns-clause-shown c =
    let d = c.args.drawing.now in
    let v = c.args.view in
    let upright = c.args.upright in
    let own : c.along-2.result.now ≡ runs_along upright (of_view v d) = c.along-2.ensures ∙ ap (runs_along upright) c.view-runs.ensures.same in
    let other : c.along-3.result.now ≡ runs_along (not upright) (of_view v d) = c.along-3.ensures ∙ ap (runs_along (not upright)) c.view-runs.ensures.same in
    let same : c.along.result.axis ≡ c.args.axis = search rules in
    let on = ap (λ (w : Direction). w.axis) (sym (c.along.ensures ∙ ap (λ f. along f upright) c.frame.ensures)) ∙ same in
    IfOk-weaker c.with_lines.result _ (λ more. (z : ℤ) → Member more.items z ↔ (Member c.args.positions.items z ⊎ ShowsByKind (style_in d) c.args.axis v upright z))
    (λ more e. with_shown d v upright (subst AreRuns own c.as_slice.ensures.kept) (subst AreRuns other c.as_slice-2.ensures.kept)
    c.args.axis on c.args.positions.items more.items
    (e ∙ ap₂ ◌++◌ (c.in_ok-positions.ensures ∙ ap (λ rs. c.args.positions.items ++ ends_of rs) (c.as_slice.ensures.same ∙ own))
    (ap run_lines (c.as_slice-2.ensures.same ∙ other))))
    c.with_lines.ensures
