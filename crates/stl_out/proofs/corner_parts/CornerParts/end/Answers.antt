-- The end at a number is that of its coordinate.
use Rattle.std.proofs.Common.{◌≡◌, ◌∙◌, ◌<◌, ℤ, pos, List, length, get_or, to_z, of_z, w64, nat_abs, ap}
use Rattle.std.proofs.lemmas.Int.{to_z-of_z}
use Rattle.std.proofs.lemmas.List.{get_or-map}
use Rattle.solid_model.specs.declared.cell.Axis.TheVariants.{Z}
use Rattle.solid_model.specs.Panels.{coordinates_of}
use Rattle.stl_out.specs.CornerParts.{corner_end, all_ends}
use Rattle.stl_out.proofs.CornerNumbers.{number_at, below_count}
use Rattle.stl_out.proofs.corner_parts.CornerParts.end.Goals as goal

pub returns-clause-text : goal.returns-clause-text
returns-clause-text c =
    let zs : List ℤ = coordinates_of c.args.self.now Z in
    let number : to_z w64 (of_z w64 c.args.z) ≡ c.args.z = to_z-of_z w64 c.args.z c.ranges.z in
    let made : c.self.inside.ends.items ≡ all_ends zs = c.self.invariant.ended ∙ (λ i. all_ends (coordinates_of (c.self.view_is i) Z)) in
    let here : nat_abs c.args.z < length zs = below_count zs c.args.z c.requires in
    c.bytes.ensures.bytes ∙ c.index.ensures ∙ (λ i. get_or (made i) (nat_abs (number i)) c.index.result.now)
    ∙ get_or-map corner_end zs (nat_abs c.args.z) (pos 0) c.index.result.now here ∙ ap corner_end (number_at zs c.args.z c.requires)
