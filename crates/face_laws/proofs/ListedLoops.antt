-- All loops of a face are listed where each side of its border is on a listed one.
use Rattle.std.proofs.Common.{◌≡◌, Bool, ℕ, List, map, ℤ, IsTrue, inl, refl, sym, ◌∙◌, ap₂, subst}
use Rattle.solid_model.specs.declared.cell.Cell.{Cell}
use Rattle.solid_model.specs.declared.face.Out.{Out}
use Rattle.solid_model.specs.Faces.{place, BeginsLeast, IsLoopOf}
use Rattle.lemmas.specs.Lists.{Member}
use Rattle.solid_model.specs.Rounds.{Spot, Side, left_square, is_border, IsRound, round_sides, round_corners, AreJoined}
use Rattle.face_laws.proofs.FacePlaces.{place_keeps}
use Rattle.face_laws.proofs.RoundStarts.{one_start}

-- A loop of cells goes along a side of the border.
pub record GoesAlong (squares : Spot → Bool) (there : Spot → Cell) (r : Side) (loop : List Cell) : Type 0 where
  pub start : Side
  pub length : ℕ
  pub is_round : IsRound squares start length
  pub is : loop ≡ map there (round_corners squares start length)
  pub begins : BeginsLeast loop
  pub on : Member (round_sides squares start length) r

-- one that is listed does
abbrev IsListed : (Spot → Bool) → (Spot → Cell) → List (List Cell) → Side → Type 0
IsListed squares there loops r = (loop : List Cell) × Member loops loop × GoesAlong squares there r loop

module _ (squares : Spot → Bool) (out : Out) (at : ℤ) (q : Spot) (loops : List (List Cell)) where
  -- all loops of the face are listed
  pub listed_complete :
      ((r : Side) → IsTrue (is_border squares r) → AreJoined squares q (left_square r) → IsListed squares (place out at) loops r)
      → (loop : List Cell) → IsLoopOf squares (place out at) q loop → Member loops loop
  listed_complete listed loop (s, n, is, joined, e, begins) =
      let (found, among, l) = listed s is.border joined in
      let one : (s ≡ l.start) × (n ≡ l.length) =
      one_start squares (place out at) (place_keeps out at) s l.start s n l.length is l.is_round
      (subst BeginsLeast e begins) (subst BeginsLeast l.is l.begins) (inl refl) l.on in
      let same : found ≡ loop =
      l.is ∙ ap₂ (λ (t : Side) (m : ℕ). map (place out at) (round_corners squares t m)) (sym one.0) (sym one.1) ∙ sym e in
      subst (Member loops) same among
