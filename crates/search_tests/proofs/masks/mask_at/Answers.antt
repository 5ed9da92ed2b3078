-- A column within the view's width and height is one of the drawing's.
use Rattle.std.proofs.Common.{◌≡◌, ◌<◌, ap, subst, ◌∙◌}
use Rattle.line_demands.specs.Touching.{view_width, view_height}
use Rattle.solid_model.specs.Blocks.{ProblemParts}
use Rattle.solid_model.specs.GridBox.{grid_sizes}
use Rattle.search_tests.proofs.masks.mask_at.Goals as goal

pub mask-requires-clause-right : goal.mask-requires-clause-right
mask-requires-clause-right c =
    let sizes = c.sizes.ensures.sizes ∙ ap grid_sizes (c.grid.ensures.grid ∙ ap (λ (p : ProblemParts). p.grid) c.problem.ensures) in
    let width = c.width_and_height-width.ensures.width ∙ ap (λ s. view_width s c.args.view) sizes in
    subst (λ n. n < view_width (grid_sizes c.args.partial.now.problem.grid) c.args.view) c.from.ensures
    (subst (λ n. c.from.result < n) width c.if-from-width.true)

pub mask-requires-clause-up : goal.mask-requires-clause-up
mask-requires-clause-up c =
    let sizes = c.sizes.ensures.sizes ∙ ap grid_sizes (c.grid.ensures.grid ∙ ap (λ (p : ProblemParts). p.grid) c.problem.ensures) in
    let height = c.width_and_height-width.ensures.height ∙ ap (λ s. view_height s c.args.view) sizes in
    subst (λ n. n < view_height (grid_sizes c.args.partial.now.problem.grid) c.args.view) c.from-then-from-width.ensures
    (subst (λ n. c.from-then-from-width.result < n) height c.if-from-height.true)
