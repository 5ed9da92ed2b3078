-- The coordinates so far.
use Rattle.std.proofs.Common.{◌≡◌, take}
use Rattle.drawing_maker.specs.Rows.{coordinates_of_ticks}
use Rattle.drawing_maker.proofs.ticks.coordinates_of.Given as goal

abbrev pub invariant-loop-tick : goal.invariant-loop-tick
invariant-loop-tick l = l.coordinates.items ≡ coordinates_of_ticks (take l.tick-index l.ticks)
