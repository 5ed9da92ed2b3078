-- The layers of cells so far.
use Rattle.std.proofs.Common.{◌≡◌, take}
use Rattle.std.specs.List.{flat_map}
use Rattle.drawing_maker.specs.Rows.{cells_in_layer}
use Rattle.drawing_maker.proofs.cells.cells_before.Given as goal

abbrev pub invariant-loop-z : goal.invariant-loop-z
invariant-loop-z l = l.cells.items ≡ flat_map (cells_in_layer l.ticks) (take l.z-index l.ticks)
