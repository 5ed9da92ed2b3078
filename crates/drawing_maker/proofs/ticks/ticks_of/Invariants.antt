-- The ticks so far.
use Rattle.std.proofs.Common.{◌≡◌, take}
use Rattle.drawing_maker.specs.Rows.{row_ticks}
use Rattle.drawing_maker.proofs.ticks.ticks_of.Given as goal

abbrev pub invariant-loop-cube : goal.invariant-loop-cube
invariant-loop-cube l = l.ticks.items ≡ row_ticks (take l.cube-index l.cubes)
