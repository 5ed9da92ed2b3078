-- The corners of a rectangle, by the coordinates of its plane and sides.
use Rattle.std.proofs.Common.{◌≡◌, ◌∙◌, ℤ}
use Rattle.face_laws.specs.GridFaces.{Planes}
use Rattle.face_laws.proofs.GridBoundary.{place_in_space}
use Rattle.solid_model.specs.declared.cell.Cell.{Cell}
use Rattle.solid_model.specs.Faces.{outward, right_axis, up_axis, place}
use Rattle.solid_model.specs.Rounds.{Spot}
use Rattle.stl_out.specs.declared.rectangle.Rectangle.{Rectangle}
use Rattle.stl_out.specs.Rectangles.{corner}

-- the point at these coordinates is the corner
pub corner_at : (planes : Planes) (r : Rectangle) (p : Spot) (at u v : ℤ) (c : Cell) → c ≡ place r.out at (record { u = u; v = v })
    → at ≡ planes (outward r.out).axis r.at → u ≡ planes (right_axis r.out) p.u → v ≡ planes (up_axis r.out) p.v → c ≡ corner planes r p
corner_at planes r p at u v c is plane right up =
    is ∙ (λ t. place r.out (plane t) (record { u = right t; v = up t })) ∙ place_in_space planes r.out r.at p
