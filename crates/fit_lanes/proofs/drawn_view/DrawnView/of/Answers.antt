-- The view keeps what its buffers are for.
use Rattle.std.proofs.Common.{◌≡◌, ◌+◌, ◌*◌, ◌≤◌, true, false, ℕ, List, length, ap, sym, subst, ◌∙◌, arith}
use Rattle.cell_rows.specs.declared.span.Span.{Span}
use Rattle.solid_model.specs.declared.cell.Axis.{Axis}
use Rattle.solid_model.specs.declared.cell.Axis.TheVariants.{X, Y, Z}
use Rattle.solid_model.specs.declared.per_axis.PerAxis.{PerAxis}
use Rattle.solid_model.specs.Blocks.{BlockNumbers}
use Rattle.solid_model.specs.GridBox.{grid_sizes}
use Rattle.solid_model.specs.Panels.{IsGrid}
use Rattle.solid_model.specs.PerAxis.{numbers_of}
use Rattle.fit_lanes.specs.Busy.{IsNoLater}
use Rattle.fit_lanes.specs.Sights.{AreSights, width, height}
use Rattle.fit_lanes.proofs.BusyPoints.{busy_all, blank_first}
use Rattle.fit_lanes.proofs.Told.{rows_more}
use Rattle.fit_lanes.proofs.drawn_view.DrawnView.of.Goals as goal

-- numbers that are the same along each axis are the same
same_numbers : (m n : PerAxis) → ((a : Axis) → numbers_of m a ≡ numbers_of n a) → m ≡ n
same_numbers m n e = λ t. record { x = e X t; y = e Y t; z = e Z t }

pub sights-requires-clause-sizes : goal.sights-requires-clause-sizes
sights-requires-clause-sizes c = same_numbers c.sizes-sizes.result c.args.rows.now.sizes (λ a.
    (λ t. c.sizes-sizes.ensures.sizes t a) ∙ (λ t. grid_sizes (c.grid-grid.ensures.grid t) a) ∙ sym (c.grid-grid.ensures.kept.sized a)
    ∙ ap (λ (b : BlockNumbers). numbers_of b.sizes a) (sym c.requires.rows))

pub invariant_of-result : goal.invariant_of-result
invariant_of-result c =
    let p = c.args.problem.now in
    let x = c.args.layer in
    let at_grid = c.grid-grid.ensures.grid in
    let w : ℕ = c.along-width.result in let h : ℕ = c.along-height.result in
    let sizes : numbers_of c.sizes-sizes.result ≡ grid_sizes p.grid = c.sizes-sizes.ensures.sizes ∙ ap grid_sizes at_grid in
    let spans : List (List Span) = c.in_ok-sights.sights in
    let wide : w ≡ width x (grid_sizes p.grid) = c.along-width.ensures ∙ (λ t. sizes t (c.sight_frame-frame.ensures t).right.axis) in
    let high : h ≡ height x (grid_sizes p.grid) = c.along-height.ensures ∙ (λ t. sizes t (c.sight_frame-frame.ensures t).up.axis) in
    let count : length spans ≡ (h + 2) * (w + 1) = c.in_ok-sights.ensures.count ∙ (λ t. (height x (sizes t) + 2) * (width x (sizes t) + 1))
    ∙ (λ t. (sym high t + 2) * (sym wide t + 1)) in
    let columns : length c.in_ok-columns.columns.items ≡ length spans = omega (arith, c.in_ok-columns.ensures.len, c.count.ensures) in
    let level : length c.in_ok-level.level.items ≡ (h + 1) * (w + 1) = omega (arith, c.in_ok-level.ensures.len) in
    let upright : length c.in_ok-upright.upright.items ≡ (h + 1) * (w + 1) = omega (arith, c.in_ok-upright.ensures.len) in
    let busy : List ℕ = c.in_ok-busy.busy.items in
    record {
      grid = subst IsGrid at_grid c.known.ensures.kept;
      keeps = c.requires.kept;
      wide = wide;
      high = high;
      few_wide = subst (λ n. n ≤ 63) (sym c.along-width.ensures) (c.sizes-sizes.ensures.few c.sight_frame-frame.result.right.axis);
      few_high = subst (λ n. n ≤ 63) (sym c.along-height.ensures) (c.sizes-sizes.ensures.few c.sight_frame-frame.result.up.axis);
      sights_of = subst (λ (b : BlockNumbers). AreSights x (grid_sizes p.grid) b.numbers c.args.kept spans) c.requires.rows
          (subst (λ (n : Axis → ℕ). AreSights x n c.args.rows.now.numbers c.args.kept spans) sizes c.in_ok-sights.ensures);
      busy = busy_all spans (w + 1) busy _ _ (omega (arith, count, rows_more h w)) c.in_ok-busy.ensures;
      right_of = subst (λ ps. IsNoLater (w + 1) true ps c.first_busy-first_right.result) c.as_slice.ensures.value c.first_busy-first_right.ensures;
      up_of = subst (λ ps. IsNoLater (w + 1) false ps c.first_busy-first_up.result) c.as_slice-2.ensures.value c.first_busy-first_up.ensures;
      columns_for = columns;
      level_for = record { long = level; blank = blank_first busy _ c.in_ok-level.level.items (c.in_ok-level.ensures.items_if_clones_equal (λ y same. same)) };
      upright_for = record { long = upright; blank = blank_first busy _ c.in_ok-upright.upright.items (c.in_ok-upright.ensures.items_if_clones_equal (λ y same. same)) };
    }
