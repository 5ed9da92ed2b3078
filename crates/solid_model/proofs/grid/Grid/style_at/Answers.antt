use Rattle.std.proofs.Common.{◌⊎◌, inl, inr, ◌+◌, ◌*◌, ◌<◌, ◌≤◌, slice_index_or, ap, ◌∙◌, arith}
use Rattle.solid_model.specs.declared.segment.Style.TheVariants.{Blank}
use Rattle.solid_model.specs.Panels.{styles_along}
use Rattle.solid_model.specs.PerView.{of_view}
use Rattle.solid_model.specs.GridBox.{axis_along, axis_across, grid_sizes}
use Rattle.solid_model.proofs.GridStyle.{blank_off_grid, style_on_grid}
use Rattle.solid_model.proofs.grid.Grid.style_at.Goals as goal

-- off the grid nothing is drawn
pub returns-then-line-cells_across : goal.returns-then-line-cells_across
returns-then-line-cells_across c =
    let g = c.args.self.now in
    blank_off_grid c.args.line _ c.args.cell _ _ (elim c.then-line-cells_across.either as (λ _. (grid_sizes g (axis_across c.args.view c.args.upright) < c.args.line)
    ⊎ (grid_sizes g (axis_along c.args.view c.args.upright) ≤ c.args.cell)) [
      | inl far ↦ inl (omega (arith, far, c.cells_across.ensures.same))
      | inr far ↦ inr (omega (arith, far.1, c.cells_along-width.ensures.same))
    ])

pub returns : goal.returns
returns c =
    let g = c.args.self.now in
    c.style_in.ensures
    ∙ (λ t. slice_index_or ((c.along.ensures ∙ ap (styles_along c.args.upright) (c.view.ensures ∙ ap (λ h. of_view c.args.view h.panels) c.self.view_is)) t) (c.args.line * c.cells_along-width.ensures.same t + c.args.cell) Blank)
    ∙ style_on_grid c.args.line _ c.args.cell _ _ (omega (arith, c.cells_across.ensures.same)) (omega (arith, c.cells_along-width.ensures.same))
