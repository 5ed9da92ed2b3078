-- Those of each layer so far are there.
use Rattle.std.proofs.Common.{take}
use Rattle.further_views.proofs.KeyedLayers.{Keeps}
use Rattle.further_views.proofs.lines.lines_by_layer.Given as goal

abbrev pub invariant-loop-line : goal.invariant-loop-line
invariant-loop-line l = Keeps l.own (take l.line-index l.lines)
