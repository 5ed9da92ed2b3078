-- Those that are changed so far.
use Rattle.std.proofs.Common.{◌≡◌, map}
use Rattle.face_laws.specs.GridFaces.{point_of_numbers, grid_planes}
use Rattle.solid_model.specs.Panels.{coordinates_of}
use Rattle.faces.proofs.MappedSoFar.{mapped}
use Rattle.faces.proofs.grid_points.put_loops.Given as goal

abbrev pub invariant-loop-around : goal.invariant-loop-around
invariant-loop-around l = l.loops ≡ mapped (map (point_of_numbers (grid_planes (coordinates_of l.grid)))) l.around-index l.initial.loops
