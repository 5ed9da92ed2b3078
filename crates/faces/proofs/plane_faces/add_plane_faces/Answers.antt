-- The faces that are put there are those of the plane's boundary squares.
use Rattle.std.proofs.Common.{◌++◌, List, map, pos, ◌∙◌, ap}
use Rattle.std.proofs.lemmas.Result.{IfOk-weaker}
use Rattle.solid_model.specs.Faces.{FaceParts}
use Rattle.solid_model.specs.Marks.{is_marked}
use Rattle.faces.specs.PlaneFaces.{face_of}
use Rattle.faces.proofs.plane_faces.add_plane_faces.Goals as goal

pub returns : goal.returns
returns c =
    let groups = c.in_ok-groups.groups.items in
    let new : List FaceParts = map (face_of c.args.out (pos c.args.at)) (map (λ g. g.items) groups) in
    IfOk-weaker c.add_faces.result _ _ (λ done is. (
      new,
      is ∙ ap (λ gs. c.args.faces.now.items ++ map (face_of c.args.out (pos c.args.at)) (map (λ g. g.items) gs)) c.as_slice.ensures.value,
      c.in_ok-groups.ensures.0 (pos c.args.at) (is_marked c.args.cells.now) c.in_ok-squares.ensures,
    )) c.add_faces.ensures
