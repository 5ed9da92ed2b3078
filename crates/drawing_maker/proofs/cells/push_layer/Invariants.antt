-- The lines of cells so far.
use Rattle.std.proofs.Common.{◌≡◌, ◌++◌, take}
use Rattle.std.specs.List.{flat_map}
use Rattle.drawing_maker.specs.Rows.{cells_in_line}
use Rattle.drawing_maker.proofs.cells.push_layer.Given as goal

abbrev pub invariant-loop-y : goal.invariant-loop-y
invariant-loop-y l = l.cells.items ≡ l.initial.cells.items ++ flat_map (λ y. cells_in_line l.ticks y l.z) (take l.y-index l.ticks)
