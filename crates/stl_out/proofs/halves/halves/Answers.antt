-- Each corner is a grid point in space.
use Rattle.std.proofs.Common.{◌≡◌, ◌∙◌, [], ◌∷◌, pos, ◌+ℤ◌, to_z, of_z, w64, rules}
use Rattle.std.proofs.lemmas.Int.{to_z-of_z}
use Rattle.face_laws.specs.GridFaces.{Planes, planes_at, grid_planes}
use Rattle.solid_model.specs.Faces.{outward, right_axis, up_axis}
use Rattle.solid_model.specs.Panels.{coordinates_of}
use Rattle.solid_model.specs.Rounds.{East, North, spot_after}
use Rattle.stl_out.specs.declared.rectangle.Rectangle.{Rectangle}
use Rattle.stl_out.specs.Rectangles.{square_of, corner_p, corner_q, corner_r, corner_s}
use Rattle.stl_out.proofs.Corners.{corner_at}
use Rattle.stl_out.proofs.halves.halves.Goals as goal

pub returns : goal.returns
returns c =
    let r : Rectangle = c.args.rectangle.now in
    let zs = coordinates_of c.args.grid.now in
    let planes : Planes = grid_planes zs in
    let plane : to_z w64 (of_z w64 c.coordinate-at.result) ≡ planes (outward r.out).axis r.at =
    to_z-of_z w64 c.coordinate-at.result (search rules) ∙ c.coordinate-at.ensures
    ∙ (λ t. planes_at ((c.coordinates.ensures.same ∙ (λ i. zs (c.direction.ensures i).axis)) t) (to_z-of_z w64 r.at (search rules) t)) in
    let rights : c.coordinates-2.result.now ≡ zs (right_axis r.out) = c.coordinates-2.ensures.same ∙ (λ i. zs (c.right.ensures i)) in
    let ups : c.coordinates-3.result.now ≡ zs (up_axis r.out) = c.coordinates-3.ensures.same ∙ (λ i. zs (c.up.ensures i)) in
    let right_number : to_z w64 (of_z w64 r.right) ≡ r.right = to_z-of_z w64 r.right (search rules) in
    let up_number : to_z w64 (of_z w64 r.up) ≡ r.up = to_z-of_z w64 r.up (search rules) in
    let left : to_z w64 (of_z w64 c.ends-left.result.0) ≡ planes (right_axis r.out) r.right =
    to_z-of_z w64 c.ends-left.result.0 (search rules) ∙ c.ends-left.ensures.first ∙ (λ t. planes_at (rights t) (right_number t)) in
    let right : to_z w64 (of_z w64 c.ends-left.result.1) ≡ planes (right_axis r.out) (r.right +ℤ pos 1) =
    to_z-of_z w64 c.ends-left.result.1 (search rules) ∙ c.ends-left.ensures.second ∙ (λ t. planes_at (rights t) (right_number t +ℤ pos 1)) in
    let below : to_z w64 (of_z w64 c.ends-below.result.0) ≡ planes (up_axis r.out) r.up =
    to_z-of_z w64 c.ends-below.result.0 (search rules) ∙ c.ends-below.ensures.first ∙ (λ t. planes_at (ups t) (up_number t)) in
    let above : to_z w64 (of_z w64 c.ends-below.result.1) ≡ planes (up_axis r.out) (r.up +ℤ pos 1) =
    to_z-of_z w64 c.ends-below.result.1 (search rules) ∙ c.ends-below.ensures.second ∙ (λ t. planes_at (ups t) (up_number t +ℤ pos 1)) in
    let p : c.place-p.result ≡ corner_p planes r = corner_at planes r (square_of r) _ _ _ c.place-p.result c.place-p.ensures plane left below in
    let q : c.place-q.result ≡ corner_q planes r =
    corner_at planes r (spot_after East (square_of r)) _ _ _ c.place-q.result c.place-q.ensures plane right below in
    let farthest : c.place-r.result ≡ corner_r planes r =
    corner_at planes r (spot_after North (spot_after East (square_of r))) _ _ _ c.place-r.result c.place-r.ensures plane right above in
    let s : c.place-s.result ≡ corner_s planes r =
    corner_at planes r (spot_after North (square_of r)) _ _ _ c.place-s.result c.place-s.ensures plane left above in
    λ t. record { out = r.out; a = p t; b = q t; c = farthest t } ∷ record { out = r.out; a = p t; b = farthest t; c = s t } ∷ []
