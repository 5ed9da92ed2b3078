-- The number, and the line's end.
use Rattle.std.proofs.Common.{◌≡◌, ◌++◌, ◌∙◌, to_z, of_z, w64, codes, ap, rules}
use Rattle.std.specs.Fmt.{signed_decimal}
use Rattle.std.proofs.lemmas.Int.{to_z-of_z}
use Rattle.stl_out.specs.CornerParts.{corner_end}
use Rattle.stl_out.proofs.corner_parts.end.Goals as goal

pub returns : goal.returns
unfolding corner_end
returns c =
    let z : to_z w64 (of_z w64 c.args.z) ≡ c.args.z = to_z-of_z w64 c.args.z c.ranges.z in
    let number : c.push_number.new.text.items ≡ codes " " ++ signed_decimal c.args.z =
    c.in_ok-push_number.ensures.text ∙ (λ i. c.new-bytes.ensures.items i ++ (codes " " ++ signed_decimal (z i))) in
    c.in_ok-extend_from_slice.ensures.items ∙ ap (λ t. t ++ codes "\n") number
