-- One corner more.
use Rattle.std.proofs.Common.{arith}
use Rattle.face_laws.specs.GridFaces.{point_of_numbers, grid_planes}
use Rattle.solid_model.specs.Panels.{coordinates_of}
use Rattle.faces.specs.GridPoints.{HasPoint}
use Rattle.faces.proofs.MappedSoFar.{mapped-next_holds, mapped-next, mapped-end}
use Rattle.faces.proofs.grid_points.put_corners.Goals as goal

pub grid_point-requires : goal.grid_point-requires
grid_point-requires c =
    let coordinates = coordinates_of c.args.grid.now in
    mapped-next_holds (point_of_numbers (grid_planes coordinates)) c.args.corners.now c.loop-corner.corners c.loop-corner.corner-index c.loop-corner.invariant
    (HasPoint coordinates) _ (omega arith) c.requires

pub loop-corner-preserved : goal.loop-corner-preserved
loop-corner-preserved c =
    let coordinates = coordinates_of c.args.grid.now in
    mapped-next (point_of_numbers (grid_planes coordinates)) c.args.corners.now c.loop-corner.corners c.loop-corner.corner-index c.loop-corner.invariant
    _ c.grid_point.result (omega arith) c.grid_point.ensures

pub returns : goal.returns
returns c =
    let coordinates = coordinates_of c.args.grid.now in
    mapped-end (point_of_numbers (grid_planes coordinates)) c.args.corners.now c.loop-corner.corners c.loop-corner.corner-index c.loop-corner.invariant (omega arith)
