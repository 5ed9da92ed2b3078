-- The sides so far.
use Rattle.std.proofs.Common.{◌≡◌, take}
use Rattle.std.specs.List.{flat_map}
use Rattle.stl_out.specs.Walk.{on_side}
use Rattle.stl_out.proofs.CellSides.{six_outs}
use Rattle.stl_out.proofs.walk.boundary_rectangles.Given as goal

abbrev pub invariant-loop-out : goal.invariant-loop-out
invariant-loop-out l = l.rectangles.items ≡ flat_map (on_side l.cells) (take l.out-index six_outs)
