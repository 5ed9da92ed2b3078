-- The map has it.
use Rattle.std.proofs.Common.{ap, ◌∙◌}
use Rattle.std.specs.BTreeMap.{get}
use Rattle.dxf_entities.specs.LayerKeys.{key_order}
use Rattle.dxf_entities.proofs.layers.Layers.of.Goals as goal

pub returns : goal.returns
returns c = c.copied.ensures ∙ (c.get.ensures.value ∙ ap (get key_order c.args.self.now.linetypes) c.key.ensures)
