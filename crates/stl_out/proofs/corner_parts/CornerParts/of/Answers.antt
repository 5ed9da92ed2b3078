-- The parts are those of the grid's coordinates.
use Rattle.std.proofs.Common.{◌∙◌, ap}
use Rattle.stl_out.specs.CornerParts.{all_heads, all_ends}
use Rattle.stl_out.proofs.corner_parts.CornerParts.of.Goals as goal

pub invariant_of-result : goal.invariant_of-result
invariant_of-result c = record {
  begun = c.in_ok-heads.ensures ∙ (λ i. all_heads (c.coordinates.ensures.same i) (c.coordinates-2.ensures.same i));
  ended = c.in_ok-ends.ensures ∙ ap all_ends c.coordinates-3.ensures.same;
}
