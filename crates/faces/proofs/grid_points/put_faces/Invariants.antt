-- Those that are changed so far.
use Rattle.std.proofs.Common.{◌≡◌}
use Rattle.face_laws.specs.GridFaces.{face_in_space, grid_planes}
use Rattle.solid_model.specs.Panels.{coordinates_of}
use Rattle.faces.proofs.MappedSoFar.{mapped}
use Rattle.faces.proofs.grid_points.put_faces.Given as goal

abbrev pub invariant-loop-face : goal.invariant-loop-face
invariant-loop-face l = l.faces ≡ mapped (face_in_space (grid_planes (coordinates_of l.grid))) l.face-index l.initial.faces
