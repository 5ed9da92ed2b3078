-- Gaps of a grid along the sight, of which something stands behind a plane.
use Rattle.std.specs.Prelude.{Bool, true, false, ℕ, suc, ◌+◌, ◌-◌, ◌<◌, List, length, slice_index_or, ℤ, pos, ◌<ℤ◌, ◌≤ℤ◌}
use Rattle.section_laws.specs.Shaded.{IsNoFarther}

-- the gap's far end stands behind the plane
abbrev pub EndsBehind : Bool → List ℤ → ℤ → ℕ → Type 0
EndsBehind true zs plane n = plane <ℤ slice_index_or zs (suc n) (pos 0)
EndsBehind false zs plane n = slice_index_or zs n (pos 0) <ℤ plane

-- its near end doesn't
abbrev pub ReachesPlane : Bool → List ℤ → ℤ → ℕ → Type 0
ReachesPlane true zs plane n = slice_index_or zs n (pos 0) ≤ℤ plane
ReachesPlane false zs plane n = plane ≤ℤ slice_index_or zs (suc n) (pos 0)

-- it is the first gap that ends behind the plane
pub record IsFirstGap (forward : Bool) (zs : List ℤ) (plane : ℤ) (n : ℕ) : Type 0 where
  pub within : suc n < length zs
  pub behind : EndsBehind forward zs plane n
  pub first : (m : ℕ) → suc m < length zs → EndsBehind forward zs plane m → IsNoFarther forward n m

-- the gap at a place along the sight, of so many
abbrev pub gap_at : Bool → ℕ → ℕ → ℕ
gap_at true gaps place = place
gap_at false gaps place = gaps - (place + 1)
