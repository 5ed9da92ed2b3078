-- The faces of a solid, plane by plane.
use Rattle.std.specs.Prelude.{◌≡◌, ◌⊎◌, Bool, ℕ, ◌<◌, List, ℤ, pos, ◌<ℤ◌, IsTrue}
use Rattle.solid_model.specs.declared.cell.Cell.{Cell}
use Rattle.solid_model.specs.declared.face.Out.{Out}
use Rattle.solid_model.specs.Faces.{is_boundary, FaceParts, IsFaceAt, out_number, FaceBefore}
use Rattle.lemmas.specs.Lists.{Member, Each, Ascends}
use Rattle.solid_model.specs.Rounds.{Spot}

-- a plane of an outward side comes before the plane m of the side n
abbrev pub IsEarlierPlane : ℕ → ℕ → Out → ℤ → Type 0
IsEarlierPlane n m out at = (out_number out < n) ⊎ ((out_number out ≡ n) × (at <ℤ pos m))

-- the list of all faces of a solid that lie in such planes
pub record AreFacesBefore (full : Cell → Bool) (n m : ℕ) (faces : List FaceParts) : Type 0 where
  pub each : Each (λ f. IsEarlierPlane n m f.out f.at × ((q : Spot) × IsFaceAt full q f)) faces
  pub ordered : Ascends FaceBefore faces
  pub complete : (out : Out) (at : ℤ) (q : Spot) → IsEarlierPlane n m out at → IsTrue (is_boundary full out at q)
      → (f : FaceParts) × Member faces f × (f.out ≡ out) × (f.at ≡ at) × IsFaceAt full q f
