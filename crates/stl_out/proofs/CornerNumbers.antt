-- The parts of corners' lines, by the numbers of their coordinates.
use Rattle.std.proofs.Common.{◌≡◌, ℕ, ℤ, pos, negsuc, nat_abs, ◌<◌, List, map, length, get_or, ap, ◌∙◌, arith}
use Rattle.std.proofs.lemmas.Int.{ints}
use Rattle.std.proofs.lemmas.List.{get_or-map, length-map}
use Rattle.face_laws.specs.GridFaces.{planes_at}
use Rattle.faces.proofs.GridNumbers.{planes_at-number}
use Rattle.stl_out.specs.CornerParts.{corner_head, heads_in_row, all_heads}
use Rattle.stl_out.specs.Numbered.{IsGridNumber}
use Rattle.stl_out.proofs.Mapped.{member}

module _ {R : Type 0} (row : R → List (List ℕ)) (rows : List R) (xs ys : List ℤ) (same : map row rows ≡ all_heads xs ys) where
  -- a row of beginnings has one for each coordinate along x
  pub count_heads : (i : ℕ) (d : R) → i < length ys → length (row (get_or rows i d)) ≡ length xs
  count_heads i d l = ap length (member row (heads_in_row xs) rows ys i d (pos 0) l same) ∙ length-map xs (λ x. corner_head x (get_or ys i (pos 0)))

  pub head_at : (i j : ℕ) (d : R) (e : List ℕ) → i < length ys → j < length xs
      → get_or (row (get_or rows i d)) j e ≡ corner_head (get_or xs j (pos 0)) (get_or ys i (pos 0))
  head_at i j d e li lj =
      ap (λ hs. get_or hs j e) (member row (heads_in_row xs) rows ys i d (pos 0) li same)
      ∙ get_or-map (λ x. corner_head x (get_or ys i (pos 0))) xs j (pos 0) e lj

-- the number of one of some coordinates is a place of theirs
pub below_count : (zs : List ℤ) (z : ℤ) → IsGridNumber zs z → nat_abs z < length zs
below_count zs (pos n) (low, high) = omega (arith, ints, high)
below_count zs (negsuc n) (low, high) = absurd (omega (arith, ints, low))

-- where that coordinate stands
pub number_at : (zs : List ℤ) (z : ℤ) → IsGridNumber zs z → get_or zs (nat_abs z) (pos 0) ≡ planes_at zs z
number_at zs z (low, high) = planes_at-number zs z (pos 0) low high
