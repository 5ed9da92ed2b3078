use Rattle.std.proofs.Common.{◌≡◌, take, ap, ◌∙◌}
use Rattle.std.proofs.lemmas.Result.{IfOk-weaker}
use Rattle.solid_model.specs.declared.frame.Direction.{Direction}
use Rattle.solid_model.specs.Frames.{along, across}
use Rattle.solid_model.specs.Panels.{starts_of, grid_styles}
use Rattle.solid_model.specs.Runs.{run_style, runs_along, style_in}
use Rattle.grid.specs.AxisCoordinates.{coordinates_in}
use Rattle.grid.proofs.GridStyles.{styles_by, grid_styles-runs}
use Rattle.grid.proofs.panels.segment_styles.Goals as goal

pub returns : goal.returns
returns c =
    let d = c.args.drawing.now in
    let v = c.args.view in
    let upright = c.args.upright in
    let coordinates = coordinates_in c.args.coordinates.now in
    let axis_of = λ (w : Direction). coordinates w.axis in
    let lines = c.along-lines.ensures ∙ ap axis_of (c.across.ensures ∙ ap (λ f. across f upright) c.frame-frame.ensures) in
    let ends = c.along-ends.ensures ∙ ap axis_of (c.along.ensures ∙ ap (λ f. along f upright) c.frame-frame.ensures) in
    let starts = ap (λ n. take n c.along-ends.result.now) c.saturating_sub.ensures ∙ ap starts_of ends in
    let runs = c.along-2.ensures ∙ ap (runs_along upright) c.view.ensures.same in
    IfOk-weaker c.styles_on.result _ (λ styles. styles.items ≡ grid_styles (style_in d) coordinates v upright)
    (λ styles e. e ∙ (λ i. styles_by (lines i) (starts i) (run_style (runs i))) ∙ grid_styles-runs d coordinates v upright)
    c.styles_on.ensures
