-- The faces lie on the grid, and are put in its space.
use Rattle.std.proofs.Common.{◌≡◌, ◌++◌, List, drop, length, map, pos, sym, ap, subst, ◌∙◌}
use Rattle.std.proofs.lemmas.List.{take_at}
use Rattle.face_laws.specs.GridFaces.{face_in_space, grid_planes}
use Rattle.solid_model.specs.Faces.{FaceParts, IsFaceAt}
use Rattle.lemmas.specs.Lists.{Each}
use Rattle.solid_model.specs.Marks.{is_marked}
use Rattle.solid_model.specs.Panels.{coordinates_of}
use Rattle.solid_model.specs.Rounds.{Spot}
use Rattle.lemmas.proofs.Lists.{each-weaker}
use Rattle.faces.specs.GridPoints.{HasFace}
use Rattle.faces.specs.PlaneFaces.{face_of, AreFacesInPlane}
use Rattle.faces.proofs.FacesOnGrid.{faces_on_grid}
use Rattle.faces.proofs.plane_faces.faces_of_squares.Goals as goal

pub put_faces-requires : goal.put_faces-requires
put_faces-requires c =
    let coordinates = coordinates_of c.args.grid.now in
    let full = is_marked c.requires.grid.marks in
    let at = pos c.args.at in
    let numbered : List FaceParts = map (face_of c.args.out at) (map (λ g. g.items) c.in_ok-groups.groups.items) in
    let are : AreFacesInPlane full c.args.out at numbered = c.in_ok-groups.ensures.0 at full c.requires.grid.are in
    let same : c.as_mut_slice.result.now ≡ numbered = c.as_mut_slice.ensures.value ∙ c.in_ok-add_faces.ensures
    ∙ (λ i. c.new-faces.ensures.items i ++ map (face_of c.args.out at) (map (λ g. g.items) (c.as_slice.ensures.value i))) in
    subst (Each (HasFace coordinates)) (sym same)
    (faces_on_grid c.requires.grid.marks coordinates c.requires.grid.sized numbered
    (each-weaker (λ f. (f.out ≡ c.args.out) × (f.at ≡ at) × ((q : Spot) × IsFaceAt full q f)) (λ f. (q : Spot) × IsFaceAt full q f) numbered
    (λ f p. p.2) are.each))

pub returns : goal.returns
returns c =
    let coordinates = coordinates_of c.args.grid.now in
    let at = pos c.args.at in
    let numbered : List FaceParts = map (face_of c.args.out at) (map (λ g. g.items) c.in_ok-groups.groups.items) in
    let same : c.as_mut_slice.result.now ≡ numbered = c.as_mut_slice.ensures.value ∙ c.in_ok-add_faces.ensures
    ∙ (λ i. c.new-faces.ensures.items i ++ map (face_of c.args.out at) (map (λ g. g.items) (c.as_slice.ensures.value i))) in
    let put = c.put_faces.ensures ∙ ap (map (face_in_space (grid_planes coordinates))) same in
    let whole = take_at c.put_faces.new.faces (drop (length c.put_faces.new.faces) c.add_faces.new.faces.items) c.add_faces.new.faces.len
    (c.put_faces.auto.faces ∙ c.as_mut_slice.ensures.len) in
    (numbered, c.in_ok-groups.ensures.0 at, whole ∙ put)
