-- The rows so far.
use Rattle.std.proofs.Common.{◌≡◌, ◌++◌, pos}
use Rattle.solid_model.specs.Faces.{is_boundary}
use Rattle.solid_model.specs.Marks.{is_marked}
use Rattle.stl_out.specs.Walk.{in_rows}
use Rattle.stl_out.proofs.walk.add_plane.Given as goal

abbrev pub invariant-loop-row : goal.invariant-loop-row
invariant-loop-row l = l.rectangles.items
    ≡ l.fn.rectangles.items ++ in_rows (is_boundary (is_marked l.cells) l.out (pos l.at)) l.out (pos l.at) l.count l.row
