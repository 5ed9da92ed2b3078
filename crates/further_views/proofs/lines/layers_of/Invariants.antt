-- Those of the lines so far are there, each once, and their keys are listed.
use Rattle.std.proofs.Common.{take}
use Rattle.further_views.specs.Layers.{AreLayersOf}
use Rattle.further_views.proofs.KeyedLayers.{Lists}
use Rattle.further_views.proofs.lines.layers_of.Given as goal

abbrev pub invariant-loop-line : goal.invariant-loop-line
invariant-loop-line l = record {
  are : AreLayersOf (take l.line-index l.lines) l.layers.items;
  lists : Lists l.listed l.layers.items;
}
