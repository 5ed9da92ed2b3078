use Rattle.std.proofs.Common.{◌-ℤ◌, ap, ap₂, ◌∙◌, arith}
use Rattle.std.specs.Int.{int_min, int_max}
use Rattle.std.proofs.lemmas.Int.{ints, clamps}
use Rattle.solid_model.specs.Line.{Line, IsNear}
use Rattle.solid_model.proofs.Sheets.{near_in_code}
use Rattle.views.proofs.CornerSteps.{less_fits, less_in_code}
use Rattle.views.proofs.strokes.stroke_of.Goals as goal

pub overflow_sub-result : goal.overflow_sub-result
overflow_sub-result c = less_fits c.ends_across-at.result.0 c.across.result c.ends_across-at.ensures.near.0 c.across.ensures.near

pub overflow_sub-result-2 : goal.overflow_sub-result-2
overflow_sub-result-2 c = less_fits c.min.result c.along-along.result (omega (arith, ints, clamps), omega (arith, ints, clamps)) c.along-along.ensures.near

pub overflow_sub-result-3 : goal.overflow_sub-result-3
overflow_sub-result-3 c = less_fits c.max.result c.along-along.result (omega (arith, ints, clamps), omega (arith, ints, clamps)) c.along-along.ensures.near

pub returns : goal.returns
returns c =
    let ends = c.ends_along-from.ensures in
    let one = near_in_code c.ends_along-from.result.0 ends.near.0 ∙ ends.from in
    let other = near_in_code c.ends_along-from.result.1 ends.near.1 ∙ ends.to in
    let from_near : IsNear c.min.result = (omega (arith, ints, clamps), omega (arith, ints, clamps)) in
    let to_near : IsNear c.max.result = (omega (arith, ints, clamps), omega (arith, ints, clamps)) in
    λ i. record {
      at = (less_in_code c.ends_across-at.result.0 c.across.result c.ends_across-at.ensures.near.0 c.across.ensures.near
          ∙ ap₂ ◌-ℤ◌ c.ends_across-at.ensures.from c.across.ensures.value) i;
      from = (less_in_code c.min.result c.along-along.result from_near c.along-along.ensures.near
          ∙ ap₂ ◌-ℤ◌ (c.min.ensures.value ∙ ap₂ int_min one other) c.along-along.ensures.value) i;
      to = (less_in_code c.max.result c.along-along.result to_near c.along-along.ensures.near
          ∙ ap₂ ◌-ℤ◌ (c.max.ensures.value ∙ ap₂ int_max one other) c.along-along.ensures.value) i;
      style = (ap (λ (m : Line). m.style) c.line.view_is) i;
    }
