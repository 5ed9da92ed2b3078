-- The word, and then number by number.
use Rattle.std.proofs.Common.{◌≡◌, ◌++◌, ◌∙◌, to_z, of_z, w64, codes, ap, rules}
use Rattle.std.specs.Fmt.{signed_decimal}
use Rattle.std.proofs.lemmas.Int.{to_z-of_z}
use Rattle.stl_out.specs.CornerParts.{corner_head}
use Rattle.stl_out.proofs.corner_parts.head.Goals as goal

pub returns : goal.returns
unfolding corner_head
returns c =
    let x : to_z w64 (of_z w64 c.args.x) ≡ c.args.x = to_z-of_z w64 c.args.x c.ranges.x in
    let y : to_z w64 (of_z w64 c.args.y) ≡ c.args.y = to_z-of_z w64 c.args.y c.ranges.y in
    let word : c.extend_from_slice.new.self.items ≡ codes "vertex" =
    c.in_ok-extend_from_slice.ensures.items ∙ ap (λ t. t ++ codes "vertex") c.new-bytes.ensures.items in
    let first : c.push_number.new.text.items ≡ codes "vertex" ++ (codes " " ++ signed_decimal c.args.x) =
    c.in_ok-push_number.ensures.text ∙ (λ i. word i ++ (codes " " ++ signed_decimal (x i))) in
    c.in_ok-push_number-2.ensures.text ∙ (λ i. first i ++ (codes " " ++ signed_decimal (y i)))
