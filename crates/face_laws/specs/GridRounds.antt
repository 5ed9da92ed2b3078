-- Squares that make up larger ones, between lines to the right and upwards: grid squares, which are squares of a plane
-- themselves, counted by number.
use Rattle.std.specs.Prelude.{◌≡◌, Bool, ℤ, pos, ◌+ℤ◌, ◌≤ℤ◌, ◌<ℤ◌}
use Rattle.solid_model.specs.Rounds.{Heading, East, North, West, South, Spot, spot_after, Side, end_of}

-- each line lies beyond the one before it
abbrev pub Rises : (ℤ → ℤ) → Type 0
Rises line = (i : ℤ) → line i <ℤ line (i +ℤ pos 1)

-- the point where two lines cross
abbrev pub grid_point : (ℤ → ℤ) → (ℤ → ℤ) → Spot → Spot
grid_point across up n = record { u = across n.u; v = up n.v }

-- a unit square lies in the grid square of these numbers
pub record LiesInSquare (across up : ℤ → ℤ) (n p : Spot) : Type 0 where
  pub left : across n.u ≤ℤ p.u
  pub right : p.u <ℤ across (n.u +ℤ pos 1)
  pub below : up n.v ≤ℤ p.v
  pub above : p.v <ℤ up (n.v +ℤ pos 1)

-- the unit squares are those of the grid squares
abbrev pub AreSquaresOf : (ℤ → ℤ) → (ℤ → ℤ) → (Spot → Bool) → (Spot → Bool) → Type 0
AreSquaresOf across up cells squares = (n p : Spot) → LiesInSquare across up n p → squares p ≡ cells n

-- a turn back
abbrev pub back_of : Heading → Heading
back_of East = West
back_of North = South
back_of West = East
back_of South = North

-- the last unit side along a side of a grid square
abbrev pub last_side : (ℤ → ℤ) → (ℤ → ℤ) → Side → Side
last_side across up s = record { start = spot_after (back_of s.heading) (grid_point across up (end_of s)); heading = s.heading }
