-- The faces of a union are those of its grid cells, as they stand in space.
use Rattle.std.proofs.Common.{◌≡◌, ◌&&◌, false, Bool, List, drop, length, map, slice_index_or, sym, ap, subst, ◌∙◌}
use Rattle.std.proofs.lemmas.List.{take_at}
use Rattle.solid_model.specs.declared.cell.Cell.{Cell}
use Rattle.solid_model.specs.Faces.{FaceParts, AreFacesOf}
use Rattle.face_laws.specs.GridFaces.{numbered_fullness, face_in_space, grid_planes}
use Rattle.lemmas.specs.Lists.{Each}
use Rattle.solid_model.specs.Marks.{is_marked}
use Rattle.solid_model.specs.Panels.{coordinates_of}
use Rattle.solid_model.specs.WalledBoxes.{is_within, box_place}
use Rattle.face_laws.proofs.GridPlanes.{union_faces}
use Rattle.faces.specs.GridPoints.{HasFace}
use Rattle.faces.proofs.FacesOnGrid.{faces_on_grid}
use Rattle.faces.proofs.solid.faces_of_rows.Goals as goal

pub put_faces-requires : goal.put_faces-requires
put_faces-requires c =
    let coordinates = coordinates_of c.args.grid.now in
    subst (Each (HasFace coordinates)) (sym c.as_mut_slice.ensures.value)
    (faces_on_grid c.args.rows.now coordinates (λ a t. c.requires t a) c.in_ok-faces.faces.items c.in_ok-faces.ensures.each)

pub returns : goal.returns
returns c = λ full is_union.
    let coordinates = coordinates_of c.args.grid.now in
    let marked = c.args.rows.now in
    let faces : List FaceParts = c.put_faces.new.faces in
    let (drawing, is_drawing, is_grid) = c.known.ensures.kept in
    let same : is_marked marked ≡ numbered_fullness coordinates marked.values =
    λ t n. is_within (c.requires t) n && slice_index_or marked.values (box_place (c.requires t) n) false in
    let numbered = subst (λ (f : Cell → Bool). AreFacesOf f c.in_ok-faces.faces.items) same c.in_ok-faces.ensures in
    let put : faces ≡ map (face_in_space (grid_planes coordinates)) c.in_ok-faces.faces.items =
    c.put_faces.ensures ∙ ap (map (face_in_space (grid_planes coordinates))) c.as_mut_slice.ensures.value in
    let whole = take_at faces (drop (length faces) c.in_ok-faces.faces.items) c.in_ok-faces.faces.len (c.put_faces.auto.faces ∙ c.as_mut_slice.ensures.len) in
    subst (AreFacesOf full) (sym (whole ∙ put))
    (union_faces coordinates (λ a. (is_grid.coordinates a).ordered) marked.values full is_union c.in_ok-faces.faces.items numbered)
