-- The ticks so far.
use Rattle.std.proofs.Common.{◌≡◌, ◌++◌, map}
use Rattle.std.specs.List.{range_with_len}
use Rattle.drawing_maker.specs.Rows.{tick_after}
use Rattle.drawing_maker.proofs.ticks.push_ticks.Given as goal

abbrev pub invariant-loop-place : goal.invariant-loop-place
invariant-loop-place l = l.ticks.items ≡ l.initial.ticks.items ++ map (tick_after l.cube) (range_with_len 0 l.place)
