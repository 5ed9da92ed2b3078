-- The layers on which lines stand.
use Rattle.std.specs.Prelude.{◌≡◌, List, [], Option, Some, None, Vec}
use Rattle.std.specs.declared.alloc.Global.{Global}
use Rattle.std.specs.BTreeMap.{BTreeMap, get}
use Rattle.dxf_entities.specs.declared.layer.Layer.{Layer}
use Rattle.dxf_entities.specs.declared.layer_line.LayerLine.{LayerLine}
use Rattle.dxf_entities.specs.LayerKeys.{LayerKey, key_order, layer_key}
use Rattle.lemmas.specs.Lists.{Ascends, Each, Member}
use Rattle.solid_model.specs.Line.{Line}

-- they are two
abbrev pub Differ : Layer → Layer → Type 0
Differ l m = l ≡ m → ⊥

-- these are the layers of lines, each once
pub record AreLayersOf (ls : List LayerLine) (layers : List Layer) : Type 0 where
  pub all : Each (λ k. Member layers k.layer) ls
  pub once : Ascends Differ layers

-- the lines that a map keeps for a layer
abbrev pub kept_lines : Option (Vec Line Global) → List Line
kept_lines None = []
kept_lines (Some own) = own.items

abbrev pub lines_by_key : BTreeMap LayerKey (Vec Line Global) → Layer → List Line
lines_by_key own l = kept_lines (get key_order own (layer_key l))
