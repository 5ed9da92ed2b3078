-- One loop more.
use Rattle.std.proofs.Common.{map, drop, length, sym, ap, subst, ◌∙◌, arith}
use Rattle.std.proofs.lemmas.List.{take_at}
use Rattle.face_laws.specs.GridFaces.{point_of_numbers, grid_planes}
use Rattle.lemmas.specs.Lists.{Each}
use Rattle.solid_model.specs.Panels.{coordinates_of}
use Rattle.faces.specs.GridPoints.{HasPoint}
use Rattle.faces.proofs.MappedSoFar.{mapped-next_holds, mapped-next, mapped-end}
use Rattle.faces.proofs.grid_points.put_loops.Goals as goal

pub put_corners-requires : goal.put_corners-requires
put_corners-requires c =
    let coordinates = coordinates_of c.args.grid.now in
    subst (Each (HasPoint coordinates)) (sym (c.as_mut_slice.ensures.value ∙ c.around.view_is))
    (mapped-next_holds (map (point_of_numbers (grid_planes coordinates))) c.args.loops.now c.loop-around.loops c.loop-around.around-index c.loop-around.invariant
    (Each (HasPoint coordinates)) _ (omega arith) c.requires)

pub loop-around-preserved : goal.loop-around-preserved
loop-around-preserved c =
    let coordinates = coordinates_of c.args.grid.now in
    let corners = c.put_corners.new.corners in
    let whole = take_at corners (drop (length corners) c.around.inside.corners.items) c.around.inside.corners.len (c.put_corners.auto.corners ∙ c.as_mut_slice.ensures.len) in
    mapped-next (map (point_of_numbers (grid_planes coordinates))) c.args.loops.now c.loop-around.loops c.loop-around.around-index c.loop-around.invariant
    _ _ (omega arith) (whole ∙ c.put_corners.ensures ∙ ap (map (point_of_numbers (grid_planes coordinates))) (c.as_mut_slice.ensures.value ∙ c.around.view_is))

pub returns : goal.returns
returns c =
    let coordinates = coordinates_of c.args.grid.now in
    mapped-end (map (point_of_numbers (grid_planes coordinates))) c.args.loops.now c.loop-around.loops c.loop-around.around-index c.loop-around.invariant (omega arith)
