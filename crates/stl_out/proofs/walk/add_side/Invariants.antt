-- The planes of the side so far.
use Rattle.std.proofs.Common.{◌≡◌, ◌++◌}
use Rattle.stl_out.specs.Walk.{in_planes}
use Rattle.stl_out.proofs.walk.add_side.Given as goal

abbrev pub invariant-loop-at : goal.invariant-loop-at
invariant-loop-at l = l.rectangles.items ≡ l.initial.rectangles.items ++ in_planes l.cells l.out l.at
