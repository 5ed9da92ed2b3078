-- Squares of a plane, and how one goes round them along their sides. The plane is looked at from the side on which u runs to
-- the right and v upwards, so that left and right have their plain meaning.
use Rattle.std.specs.Prelude.{◌≡◌, Bool, true, false, not, ◌&&◌, ℕ, zero, suc, List, [], ◌∷◌, ℤ, pos, ◌+ℤ◌, ◌-ℤ◌, IsTrue, if◌then◌else◌}
use Rattle.lemmas.specs.Chains.{Reaches}
use Rattle.lemmas.specs.Lists.{Member}

-- a whole point (u, v) of a plane; also the unit square from (u, v) to (u + 1, v + 1)
pub record Spot : Type 0 where
  pub u : ℤ
  pub v : ℤ

-- the four ways to go: to the right, upwards, to the left, downwards
pub data Heading : Type 0 where
  East : Heading
  North : Heading
  West : Heading
  South : Heading

-- two names of one heading
abbrev pub same_heading : Heading → Heading → Bool
same_heading East East = true
same_heading North North = true
same_heading West West = true
same_heading South South = true
same_heading h k = false

-- the heading after a turn to the left
abbrev pub left_of : Heading → Heading
left_of East = North
left_of North = West
left_of West = South
left_of South = East

-- and after one to the right
abbrev pub right_of : Heading → Heading
right_of East = South
right_of North = East
right_of West = North
right_of South = West

-- one unit farther, for a point or a square
abbrev pub spot_after : Heading → Spot → Spot
spot_after East p = record p { u = p.u +ℤ pos 1 }
spot_after North p = record p { v = p.v +ℤ pos 1 }
spot_after West p = record p { u = p.u -ℤ pos 1 }
spot_after South p = record p { v = p.v -ℤ pos 1 }

-- the square at a point that lies ahead on the left of whoever goes on so
abbrev pub square_at : Heading → Spot → Spot
square_at East p = p
square_at North p = record p { u = p.u -ℤ pos 1 }
square_at West p = record { u = p.u -ℤ pos 1; v = p.v -ℤ pos 1 }
square_at South p = record p { v = p.v -ℤ pos 1 }

-- ---- sides

-- a side of a square, as it is gone along: one unit from a point
pub record Side : Type 0 where
  pub start : Spot
  pub heading : Heading

-- the point where it ends
abbrev pub end_of : Side → Spot
end_of s = spot_after s.heading s.start

-- the square on its left; what lies ahead on the right of a point lies ahead on the left after a turn to the right
abbrev pub left_square : Side → Spot
left_square s = square_at s.heading s.start

-- the square on its right
abbrev pub right_square : Side → Spot
right_square s = square_at (right_of s.heading) s.start

-- some squares go no farther across the side: one of them lies on its left and none on its right
abbrev pub is_border : (Spot → Bool) → Side → Bool
is_border squares s = squares (left_square s) && not (squares (right_square s))

-- ---- going round

-- the side that begins where a side ends
abbrev pub leaving : Side → Heading → Side
leaving s h = record { start = end_of s; heading = h }

-- how the border goes on from the end of a side: to the left where it can, else straight on where it can, else to the right
abbrev pub heading_after : (Spot → Bool) → Side → Heading
heading_after squares s =
    if is_border squares (leaving s (left_of s.heading)) then left_of s.heading
    else (if is_border squares (leaving s s.heading) then s.heading else right_of s.heading)

-- the side of the border that follows a side
abbrev pub following : (Spot → Bool) → Side → Side
following squares s = leaving s (heading_after squares s)

-- the border turns at the end of a side
abbrev pub turns : (Spot → Bool) → Side → Bool
turns squares s = not (same_heading (heading_after squares s) s.heading)

-- the side that comes so many after a side
abbrev pub further : (Spot → Bool) → ℕ → Side → Side
further squares zero s = s
further squares (suc n) s = further squares n (following squares s)

-- so many sides, from a side on
abbrev pub sides_from : (Spot → Bool) → ℕ → Side → List Side
sides_from squares zero s = []
sides_from squares (suc n) s = s ∷ sides_from squares n (following squares s)

-- A round from the end of a side: the border turns there, and after n other sides comes to this one again, and no earlier.
pub record IsRound (squares : Spot → Bool) (s : Side) (n : ℕ) : Type 0 where
  pub border : IsTrue (is_border squares s)
  pub corner : IsTrue (turns squares s)
  pub back : further squares n (following squares s) ≡ s
  pub once : Member (sides_from squares n (following squares s)) s → ⊥

-- the corners to which sides come: the points where the border turns at their ends
abbrev pub corners : (Spot → Bool) → List Side → List Spot
corners squares [] = []
corners squares (s ∷ ss) = if turns squares s then (end_of s ∷ corners squares ss) else corners squares ss

-- the sides of a round, from the side on
abbrev pub round_sides : (Spot → Bool) → Side → ℕ → List Side
round_sides squares s n = s ∷ sides_from squares n (following squares s)

-- and its corners, from the end of the side on
abbrev pub round_corners : (Spot → Bool) → Side → ℕ → List Spot
round_corners squares s n = corners squares (round_sides squares s n)

-- ---- joined squares

-- two of the squares are neighbours: they have a side in common
abbrev pub AreNeighbours : (Spot → Bool) → Spot → Spot → Type 0
AreNeighbours squares p q = IsTrue (squares p) × IsTrue (squares q) × ((h : Heading) × (q ≡ spot_after h p))

-- a chain of neighbours joins two of the squares
abbrev pub AreJoined : (Spot → Bool) → Spot → Spot → Type 0
AreJoined squares p q = Reaches (AreNeighbours squares) p q
