-- Coordinates of a grid by their numbers.
use Rattle.std.proofs.Common.{◌≡◌, ℕ, zero, suc, ◌<◌, List, [], ◌∷◌, length, get_or, ℤ, pos, negsuc, ◌≤ℤ◌, ◌<ℤ◌, nat_abs, refl, sym, arith}
use Rattle.std.proofs.lemmas.Int.{ints}
use Rattle.face_laws.specs.GridFaces.{coordinate_from, planes_at}

coordinate_from-at : (z : ℤ) (zs : List ℤ) (n : ℕ) (d : ℤ) → n < length (z ∷ zs) → coordinate_from z zs n ≡ get_or (z ∷ zs) n d
coordinate_from-at z zs zero d l = refl
coordinate_from-at z [] (suc n) d l = absurd (omega arith)
coordinate_from-at z (w ∷ zs) (suc n) d l = coordinate_from-at w zs n d (omega arith)

-- the plane of a number of the grid stands at its coordinate
pub planes_at-number : (zs : List ℤ) (k d : ℤ) → pos 0 ≤ℤ k → k <ℤ pos (length zs) → get_or zs (nat_abs k) d ≡ planes_at zs k
planes_at-number [] k d low high = absurd (omega (arith, ints))
planes_at-number (z ∷ zs) (pos n) d low high = sym (coordinate_from-at z zs n d (omega (arith, ints)))
planes_at-number (z ∷ zs) (negsuc n) d low high = absurd (omega (arith, ints))
