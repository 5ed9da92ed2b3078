-- One face more.
use Rattle.std.proofs.Common.{arith}
use Rattle.face_laws.specs.GridFaces.{face_in_space, grid_planes}
use Rattle.solid_model.specs.Panels.{coordinates_of}
use Rattle.faces.specs.GridPoints.{HasFace}
use Rattle.faces.proofs.MappedSoFar.{mapped-next_holds, mapped-next, mapped-end}
use Rattle.faces.proofs.grid_points.put_faces.Goals as goal

pub put_face-requires : goal.put_face-requires
put_face-requires c =
    let coordinates = coordinates_of c.args.grid.now in
    mapped-next_holds (face_in_space (grid_planes coordinates)) c.args.faces.now c.loop-face.faces c.loop-face.face-index c.loop-face.invariant
    (HasFace coordinates) _ (omega arith) c.requires

pub loop-face-preserved : goal.loop-face-preserved
loop-face-preserved c =
    let coordinates = coordinates_of c.args.grid.now in
    mapped-next (face_in_space (grid_planes coordinates)) c.args.faces.now c.loop-face.faces c.loop-face.face-index c.loop-face.invariant
    _ c.put_face.new.face (omega arith) c.put_face.ensures

pub returns : goal.returns
returns c =
    let coordinates = coordinates_of c.args.grid.now in
    mapped-end (face_in_space (grid_planes coordinates)) c.args.faces.now c.loop-face.faces c.loop-face.face-index c.loop-face.invariant (omega arith)
