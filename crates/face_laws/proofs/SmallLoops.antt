-- Loops that are written out are gone round.
use Rattle.std.proofs.Common.{◌≡◌, Bool, true, false, ℕ, zero, suc, pos, refl}
use Rattle.solid_model.specs.Rounds.{Spot, Heading, East, Side, is_border, following, turns, further, sides_from, IsRound, AreJoined}
use Rattle.face_laws.proofs.SameSides.{is_among, not_among}
use Rattle.face_laws.specs.SmallFaces.{first_square}

-- a side that begins here
abbrev pub side_at : ℕ → ℕ → Heading → Side
side_at u v h = record { start = record { u = pos u; v = pos v }; heading = h }

-- a round that is written out
pub round_is : (squares : Spot → Bool) (s : Side) (n : ℕ) → is_border squares s ≡ true → turns squares s ≡ true
    → further squares n (following squares s) ≡ s → is_among (sides_from squares n (following squares s)) s ≡ false
    → IsRound squares s n
round_is squares s n border corner back once = record {
  border = border;
  corner = corner;
  back = back;
  once = not_among (sides_from squares n (following squares s)) s once;
}

-- the square to the right of the first is joined with it
pub second_joined : (squares : Spot → Bool) → squares first_square ≡ true → squares (record { u = pos 1; v = pos 0 }) ≡ true
    → AreJoined squares first_square (record { u = pos 1; v = pos 0 })
second_joined squares e f = (suc zero, (first_square, refl, (e, f, (East, refl))))
