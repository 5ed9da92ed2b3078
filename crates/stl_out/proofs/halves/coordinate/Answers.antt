-- The coordinate of a number is that of its plane.
use Rattle.std.proofs.Common.{◌≡◌, ◌∙◌, pos, to_z, of_z, w64, nat_abs, get_or, ap, rules}
use Rattle.std.proofs.lemmas.Int.{to_z-of_z}
use Rattle.faces.proofs.GridNumbers.{planes_at-number}
use Rattle.stl_out.proofs.halves.coordinate.Goals as goal

pub returns : goal.returns
returns c =
    let zs = c.args.coordinates.now in
    let number : to_z w64 (of_z w64 c.args.number) ≡ c.args.number = to_z-of_z w64 c.args.number (search rules) in
    ap (λ k. to_z w64 (of_z w64 (get_or zs (nat_abs k) (pos 0)))) number
    ∙ to_z-of_z w64 (get_or zs (nat_abs c.args.number) (pos 0)) (search rules)
    ∙ planes_at-number zs c.args.number (pos 0) c.requires.0 c.requires.1
