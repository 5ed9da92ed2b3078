-- The triangles of the rectangles so far.
use Rattle.std.proofs.Common.{◌≡◌, take}
use Rattle.face_laws.specs.GridFaces.{grid_planes}
use Rattle.solid_model.specs.Panels.{coordinates_of}
use Rattle.stl_out.specs.Rectangles.{all_triangles}
use Rattle.stl_out.proofs.surface.triangles.Given as goal

abbrev pub invariant-loop-rectangle : goal.invariant-loop-rectangle
invariant-loop-rectangle l = l.triangles.items ≡ all_triangles (grid_planes (coordinates_of l.problem.grid)) (take l.rectangle-index l.rectangle-items)
