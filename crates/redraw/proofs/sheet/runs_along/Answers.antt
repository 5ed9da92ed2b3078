-- The grid's coordinates are near, and its segments as many as the drawing has styles for.
use Rattle.std.proofs.Common.{◌≡◌, ◌-◌, ◌*◌, length, ◌<ℤ◌, ap, sym, subst, ◌∙◌, rules}
use Rattle.solid_model.specs.Frames.{frame_of, along, across}
use Rattle.lemmas.specs.Lists.{Each, Ascends}
use Rattle.solid_model.specs.Panels.{coordinates_of, styles_along}
use Rattle.redraw.specs.GridRuns.{IsNearRun}
use Rattle.redraw.proofs.DrawnRuns.{drawn_count, AreNear, near_runs, grid_near, grid_ascends}
use Rattle.redraw.proofs.sheet.runs_along.Goals as goal

pub runs_on-requires-clause-count : goal.runs_on-requires-clause-count
runs_on-requires-clause-count c =
    let g = c.args.grid.now in
    let upright = c.args.upright in
    let lines : c.coordinates-lines.result.now ≡ coordinates_of g (across (frame_of c.args.view) upright).axis =
    c.coordinates-lines.ensures.same ∙ (λ t. coordinates_of g (c.across.ensures t).axis) ∙ (λ t. coordinates_of g (across (c.frame-frame.ensures t) upright).axis) in
    let ends : c.coordinates-ends.result.now ≡ coordinates_of g (along (frame_of c.args.view) upright).axis =
    c.coordinates-ends.ensures.same ∙ (λ t. coordinates_of g (c.along.ensures t).axis) ∙ (λ t. coordinates_of g (along (c.frame-frame.ensures t) upright).axis) in
    let drawn = c.requires c.coordinates-lines.ensures.kept in
    ap length (c.along-styles.ensures ∙ ap (styles_along upright) c.view.ensures)
    ∙ drawn_count drawn.0 (coordinates_of g) c.args.panels.now drawn.1 c.args.view upright
    ∙ sym (λ t. length (lines t) * (length (ends t) - 1))

pub returns : goal.returns
returns c =
    let g = c.args.grid.now in
    let grid = c.coordinates-ends.ensures.kept in
    let near_lines = subst AreNear (sym c.coordinates-lines.ensures.same) (grid_near g grid c.across.result.axis) in
    let near_ends = subst AreNear (sym c.coordinates-ends.ensures.same) (grid_near g grid c.along.result.axis) in
    let ordered = subst (Ascends ◌<ℤ◌) (sym c.coordinates-ends.ensures.same) (grid_ascends g grid c.along.result.axis) in
    record {
      grid = grid;
      on = search rules;
      near = subst (Each IsNearRun) (sym c.new.ensures)
          (near_runs c.coordinates-lines.result.now c.coordinates-ends.result.now ordered near_lines near_ends c.along-styles.result.now c.in_ok-runs_on.field-0.items c.in_ok-runs_on.ensures);
    }
