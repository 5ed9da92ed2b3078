-- Those of the layers so far are there.
use Rattle.std.proofs.Common.{take}
use Rattle.further_views.specs.Further.{further_lines}
use Rattle.further_views.proofs.AskedLayers.{AreAskedOf}
use Rattle.further_views.proofs.lines.further_of.Given as goal

abbrev pub invariant-loop-layer : goal.invariant-loop-layer
invariant-loop-layer l = AreAskedOf (further_lines l.lines) (take l.layer-index l.layer-items) l.views.items
