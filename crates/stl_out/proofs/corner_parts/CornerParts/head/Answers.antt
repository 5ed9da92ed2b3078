-- The beginning at two numbers is that of their coordinates.
use Rattle.std.proofs.Common.{◌≡◌, ◌∙◌, ◌<◌, ℤ, pos, List, map, length, get_or, to_z, of_z, w64, nat_abs, vec_len, ap, sym, subst, arith, rules}
use Rattle.std.proofs.lemmas.Int.{to_z-of_z}
use Rattle.solid_model.specs.declared.cell.Axis.TheVariants.{X, Y}
use Rattle.solid_model.specs.Panels.{coordinates_of}
use Rattle.stl_out.specs.CornerParts.{corner_head, all_heads}
use Rattle.stl_out.proofs.CornerNumbers.{head_at, count_heads, number_at, below_count}
use Rattle.stl_out.proofs.corner_parts.CornerParts.head.Goals as goal

pub index-requires-2 : goal.index-requires-2
index-requires-2 c =
    let xs : List ℤ = coordinates_of c.args.self.now X in
    let ys : List ℤ = coordinates_of c.args.self.now Y in
    let x : to_z w64 (of_z w64 c.args.x) ≡ c.args.x = to_z-of_z w64 c.args.x c.ranges.x in
    let y : to_z w64 (of_z w64 c.args.y) ≡ c.args.y = to_z-of_z w64 c.args.y c.ranges.y in
    let rows = c.self.inside.heads.items in
    let made : map (λ row. row.items) rows ≡ all_heads xs ys =
    c.self.invariant.begun ∙ (λ i. all_heads (coordinates_of (c.self.view_is i) X) (coordinates_of (c.self.view_is i) Y)) in
    let row : c.index.result.now ≡ get_or rows (nat_abs c.args.y) c.index.result.now =
    c.index.ensures ∙ ap (λ k. get_or rows (nat_abs k) c.index.result.now) y in
    let count : length c.index.result.now.items ≡ length xs = ap (λ r. length r.items) row
    ∙ count_heads (λ row. row.items) rows xs ys made (nat_abs c.args.y) c.index.result.now (below_count ys c.args.y c.requires.y) in
    let here : nat_abs c.args.x < length xs = below_count xs c.args.x c.requires.x in
    let counted : vec_len c.index.result.now ≡ length c.index.result.now.items = search rules in
    subst (λ k. nat_abs k < vec_len c.index.result.now) (sym x) (omega (arith, count, here, counted))

pub returns-clause-text : goal.returns-clause-text
returns-clause-text c =
    let xs : List ℤ = coordinates_of c.args.self.now X in
    let ys : List ℤ = coordinates_of c.args.self.now Y in
    let x : to_z w64 (of_z w64 c.args.x) ≡ c.args.x = to_z-of_z w64 c.args.x c.ranges.x in
    let y : to_z w64 (of_z w64 c.args.y) ≡ c.args.y = to_z-of_z w64 c.args.y c.ranges.y in
    let rows = c.self.inside.heads.items in
    let made : map (λ row. row.items) rows ≡ all_heads xs ys =
    c.self.invariant.begun ∙ (λ i. all_heads (coordinates_of (c.self.view_is i) X) (coordinates_of (c.self.view_is i) Y)) in
    let row : c.index.result.now ≡ get_or rows (nat_abs c.args.y) c.index.result.now =
    c.index.ensures ∙ ap (λ k. get_or rows (nat_abs k) c.index.result.now) y in
    c.bytes.ensures.bytes ∙ c.index-2.ensures ∙ (λ i. get_or (row i).items (nat_abs (x i)) c.index-2.result.now)
    ∙ head_at (λ row. row.items) rows xs ys made (nat_abs c.args.y) (nat_abs c.args.x) c.index.result.now c.index-2.result.now
    (below_count ys c.args.y c.requires.y) (below_count xs c.args.x c.requires.x)
    ∙ (λ i. corner_head (number_at xs c.args.x c.requires.x i) (number_at ys c.args.y c.requires.y i))
