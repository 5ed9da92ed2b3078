-- Each corner stands so far to the right and upwards.
use Rattle.std.proofs.Common.{◌≡◌, ◌∙◌, ℤ, pos, ◌+ℤ◌, to_z, of_z, w64, rules}
use Rattle.std.proofs.lemmas.Int.{to_z-of_z}
use Rattle.solid_model.specs.declared.cell.Cell.{Cell}
use Rattle.solid_model.specs.declared.face.Out.{Out}
use Rattle.solid_model.specs.Faces.{place}
use Rattle.stl_out.specs.declared.rectangle.Rectangle.{Rectangle}
use Rattle.stl_out.proofs.rectangle_corners.corner_numbers.Goals as goal

-- a place by other names of its numbers
renamed : (out : Out) (at u v : ℤ) (here right up : ℤ) (c : Cell) → c ≡ place out at (record { u = u; v = v }) → at ≡ here → u ≡ right → v ≡ up
    → c ≡ place out here (record { u = right; v = up })
renamed out at u v here right up c is a b d = is ∙ (λ i. place out (a i) (record { u = b i; v = d i }))

pub returns : goal.returns
returns c =
    let r : Rectangle = c.args.rectangle.now in
    let at : to_z w64 (of_z w64 r.at) ≡ r.at = to_z-of_z w64 r.at (search rules) in
    let right : to_z w64 (of_z w64 r.right) ≡ r.right = to_z-of_z w64 r.right (search rules) in
    let up : to_z w64 (of_z w64 r.up) ≡ r.up = to_z-of_z w64 r.up (search rules) in
    let p = renamed r.out _ _ _ r.at r.right r.up c.place.result c.place.ensures at right up in
    let q = renamed r.out _ _ _ r.at (r.right +ℤ pos 1) r.up c.place-2.result c.place-2.ensures at (search rules) up in
    let far = renamed r.out _ _ _ r.at (r.right +ℤ pos 1) (r.up +ℤ pos 1) c.place-3.result c.place-3.ensures at (search rules) (search rules) in
    let s = renamed r.out _ _ _ r.at r.right (r.up +ℤ pos 1) c.place-4.result c.place-4.ensures at right (search rules) in
    λ i. record { p = p i; q = q i; r = far i; s = s i }
