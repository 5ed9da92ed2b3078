-- Those that are changed so far.
use Rattle.std.proofs.Common.{◌≡◌}
use Rattle.face_laws.specs.GridFaces.{point_of_numbers, grid_planes}
use Rattle.solid_model.specs.Panels.{coordinates_of}
use Rattle.faces.proofs.MappedSoFar.{mapped}
use Rattle.faces.proofs.grid_points.put_corners.Given as goal

abbrev pub invariant-loop-corner : goal.invariant-loop-corner
invariant-loop-corner l = l.corners ≡ mapped (point_of_numbers (grid_planes (coordinates_of l.grid))) l.corner-index l.initial.corners
