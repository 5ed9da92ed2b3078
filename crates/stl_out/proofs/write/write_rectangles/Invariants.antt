-- The texts of the rectangles so far are written, or are still in the piece.
use Rattle.std.proofs.Common.{◌++◌, ◌≤◌, length, take}
use Rattle.std.specs.List.{flat_map}
use Rattle.face_laws.specs.GridFaces.{grid_planes}
use Rattle.solid_model.specs.Panels.{coordinates_of}
use Rattle.stl_out.specs.Pieces.{rectangle_text}
use Rattle.tv_base.specs.Pieces.{WritesOn}
use Rattle.stl_out.proofs.write.write_rectangles.Given as goal

abbrev pub invariant-loop-rectangle : goal.invariant-loop-rectangle
invariant-loop-rectangle g l = record {
  later : g.K.Sink.faults l.initial.sink ≤ g.K.Sink.faults l.sink;
  written : WritesOn (g.K.Sink.held l.initial.sink) (g.K.Sink.held l.sink)
      (l.initial.piece.items ++ flat_map (rectangle_text (grid_planes (coordinates_of l.parts))) (take l.rectangle-index l.rectangles)) l.piece.items;
  room : length l.piece.items ≤ 65200;
}
