-- Line by line.
use Rattle.std.proofs.Common.{◌++◌, ◌∙◌, ap}
use Rattle.face_laws.specs.GridFaces.{Planes, grid_planes, point_of_numbers}
use Rattle.solid_model.specs.Panels.{coordinates_of}
use Rattle.stl_out.specs.declared.triangle.Triangle.{Triangle}
use Rattle.stl_out.proofs.Texts.{facet_pushed}
use Rattle.stl_out.proofs.text.push_facet.Goals as goal

pub returns-clause-text : goal.returns-clause-text
returns-clause-text c =
    let planes : Planes = grid_planes (coordinates_of c.args.parts.now) in
    let t : Triangle = record {
      out = c.args.out;
      a = point_of_numbers planes c.args.a;
      b = point_of_numbers planes c.args.b;
      c = point_of_numbers planes c.args.c;
    } in
    facet_pushed t _ _ _ _ _ _
    (c.in_ok-extend_from_slice.ensures.items ∙ ap (λ line. c.args.text.now.items ++ line) (c.as_bytes.ensures.value ∙ c.first_lines.ensures.text))
    c.in_ok-push_corner.ensures.text c.in_ok-push_corner-2.ensures.text c.in_ok-push_corner-3.ensures.text c.in_ok-extend_from_slice-2.ensures.items
