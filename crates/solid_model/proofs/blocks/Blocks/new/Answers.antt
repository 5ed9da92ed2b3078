-- A grid's cells are few, and there is a number or none for each of them.
use Rattle.std.proofs.Common.{ap, sym, ◌∙◌, arith}
use Rattle.solid_model.specs.WalledBoxes.{box_count}
use Rattle.solid_model.proofs.blocks.Blocks.new.Goals as goal

pub invariant_of-result : goal.invariant_of-result
invariant_of-result c = record {
  few = λ a. omega (arith, c.sizes.ensures.few a);
  listed = c.requires.listed ∙ ap box_count (sym c.sizes.ensures.sizes);
  below = c.requires.below;
}
