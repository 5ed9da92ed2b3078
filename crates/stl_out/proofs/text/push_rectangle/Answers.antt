-- One triangle, and the other one.
use Rattle.std.proofs.Common.{◌≡◌, ◌∷◌, [], sym, refl}
use Rattle.face_laws.specs.GridFaces.{Planes, grid_planes, point_of_numbers}
use Rattle.solid_model.specs.Grid.{Coordinates}
use Rattle.solid_model.specs.Faces.{right_axis, up_axis}
use Rattle.solid_model.specs.Panels.{coordinates_of}
use Rattle.stl_out.specs.declared.rectangle.Rectangle.{Rectangle}
use Rattle.stl_out.specs.Numbered.{corners_of}
use Rattle.stl_out.specs.Rectangles.{triangles_of}
use Rattle.stl_out.proofs.OnGrid.{corners_on_grid, small_number}
use Rattle.stl_out.proofs.Texts.{rectangle_pushed}
use Rattle.stl_out.proofs.text.push_rectangle.Goals as goal

pub corner_numbers-requires-clause-right : goal.corner_numbers-requires-clause-right
corner_numbers-requires-clause-right c =
    let r : Rectangle = c.args.rectangle.now in
    let cs : Coordinates = coordinates_of c.args.parts.now in
    small_number (cs (right_axis r.out)) r.right (c.requires.few (right_axis r.out)) c.requires.numbered.left

pub corner_numbers-requires-clause-up : goal.corner_numbers-requires-clause-up
corner_numbers-requires-clause-up c =
    let r : Rectangle = c.args.rectangle.now in
    let cs : Coordinates = coordinates_of c.args.parts.now in
    small_number (cs (up_axis r.out)) r.up (c.requires.few (up_axis r.out)) c.requires.numbered.below

pub push_facet-requires-clause-a : goal.push_facet-requires-clause-a
push_facet-requires-clause-a c =
    (corners_on_grid (coordinates_of c.args.parts.now) c.args.rectangle.now c.corner_numbers.result c.corner_numbers.ensures c.requires.numbered).p

pub push_facet-requires-clause-b : goal.push_facet-requires-clause-b
push_facet-requires-clause-b c =
    (corners_on_grid (coordinates_of c.args.parts.now) c.args.rectangle.now c.corner_numbers.result c.corner_numbers.ensures c.requires.numbered).q

pub push_facet-requires-clause-c : goal.push_facet-requires-clause-c
push_facet-requires-clause-c c =
    (corners_on_grid (coordinates_of c.args.parts.now) c.args.rectangle.now c.corner_numbers.result c.corner_numbers.ensures c.requires.numbered).r

pub push_facet-requires-2-clause-a : goal.push_facet-requires-2-clause-a
push_facet-requires-2-clause-a c =
    (corners_on_grid (coordinates_of c.args.parts.now) c.args.rectangle.now c.corner_numbers.result c.corner_numbers.ensures c.requires.numbered).p

pub push_facet-requires-2-clause-b : goal.push_facet-requires-2-clause-b
push_facet-requires-2-clause-b c =
    (corners_on_grid (coordinates_of c.args.parts.now) c.args.rectangle.now c.corner_numbers.result c.corner_numbers.ensures c.requires.numbered).r

pub push_facet-requires-2-clause-c : goal.push_facet-requires-2-clause-c
push_facet-requires-2-clause-c c =
    (corners_on_grid (coordinates_of c.args.parts.now) c.args.rectangle.now c.corner_numbers.result c.corner_numbers.ensures c.requires.numbered).s

pub returns-clause-text : goal.returns-clause-text
returns-clause-text c =
    let r : Rectangle = c.args.rectangle.now in
    let planes : Planes = grid_planes (coordinates_of c.args.parts.now) in
    let k = c.corner_numbers.result in
    rectangle_pushed planes r
    (record { out = r.out; a = point_of_numbers planes k.p; b = point_of_numbers planes k.q; c = point_of_numbers planes k.r })
    (record { out = r.out; a = point_of_numbers planes k.p; b = point_of_numbers planes k.r; c = point_of_numbers planes k.s })
    _ _ _
    (λ i. let j = sym c.corner_numbers.ensures i in
    record { out = r.out; a = point_of_numbers planes j.p; b = point_of_numbers planes j.q; c = point_of_numbers planes j.r }
    ∷ record { out = r.out; a = point_of_numbers planes j.p; b = point_of_numbers planes j.r; c = point_of_numbers planes j.s } ∷ [])
    c.in_ok-push_facet.ensures.text c.in_ok-push_facet-2.ensures.text
