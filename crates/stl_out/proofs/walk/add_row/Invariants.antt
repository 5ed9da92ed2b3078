-- The squares of the row so far.
use Rattle.std.proofs.Common.{◌≡◌, ◌++◌, pos}
use Rattle.faces.specs.PlaneSquares.{is_there}
use Rattle.stl_out.specs.Walk.{in_row}
use Rattle.stl_out.proofs.walk.add_row.Given as goal

abbrev pub invariant-loop-place : goal.invariant-loop-place
invariant-loop-place l = l.rectangles.items ≡ l.initial.rectangles.items ++ in_row (is_there l.squares) l.out (pos l.at) l.place l.row
