-- The cells so far.
use Rattle.std.proofs.Common.{◌≡◌, ◌++◌, map, take}
use Rattle.drawing_maker.specs.Rows.{is_full_before}
use Rattle.drawing_maker.proofs.cells.push_line.Given as goal

abbrev pub invariant-loop-x : goal.invariant-loop-x
invariant-loop-x l = l.cells.items ≡ l.initial.cells.items ++ map (λ x. is_full_before x l.y l.z) (take l.x-index l.ticks)
