-- The sides of the border of squares in a table, by numbers, each followed by the next one of its round. Points are numbered in
-- the order in which they come, and sides by the points where they end.
use Rattle.std.specs.Prelude.{Bool, ℕ, ◌+◌, ◌*◌, ◌/◌, ◌%◌, ◌≤◌, ◌<◌, ◌≡◌, List, map, IsTrue, if◌then◌else◌}
use Rattle.faces.specs.declared.border_side.BorderSide.{BorderSide}
use Rattle.faces.specs.declared.point.Point.{Point}
use Rattle.faces.specs.PlaneLoops.{PlaneLoop}
use Rattle.faces.specs.PlaneSquares.{SquareTable, is_there}
use Rattle.faces.specs.Points.{spot_of}
use Rattle.faces.specs.Ways.{heading_of, heading_number, heading_at}
use Rattle.rounds.specs.Succession.{first}
use Rattle.lemmas.specs.Bits.{bit_of}
use Rattle.solid_model.specs.WalledBoxes.{place_of_number}
use Rattle.solid_model.specs.Rounds.{Spot, Heading, left_of, spot_after, Side, end_of, left_square, is_border, following, corners}

-- ---- points

-- a point lies between (0, 0) and the far corner of a table
pub record IsTablePoint (p : Point) : Type 0 where
  pub across : p.u ≤ 63
  pub up : p.v ≤ 63

-- the same of a spot
pub record IsTableSpot (p : Spot) : Type 0 where
  pub point : Point
  pub is : p ≡ spot_of point
  pub within : IsTablePoint point

-- a spot without its signs
abbrev pub point_of : Spot → Point
point_of p = record { u = place_of_number p.u; v = place_of_number p.v }

-- the number of a point: 64 come one after another that differ in one coordinate alone
abbrev pub point_number : Bool → Point → ℕ
point_number up_first p = if up_first then p.v * 64 + p.u else p.u * 64 + p.v

-- the point with a number
abbrev pub point_at : Bool → ℕ → Point
point_at up_first k = if up_first then record { u = k % 64; v = k / 64 } else record { u = k / 64; v = k % 64 }

-- ---- sides

-- the side that comes to a spot with a heading
abbrev pub side_to : Spot → Heading → Side
side_to p h = record { start = spot_after (left_of (left_of h)) p; heading = h }

-- a side that is told by its end
abbrev pub side_of : BorderSide → Side
side_of s = side_to (spot_of s.end) (heading_of s.way)

-- the number of the side that comes to a point with a heading
abbrev pub side_number : Bool → Point → Heading → ℕ
side_number up_first p h = point_number up_first p * 4 + heading_number h

-- the side with a number
abbrev pub side_at : Bool → ℕ → Side
side_at up_first k = side_to (spot_of (point_at up_first (k / 4))) (heading_at (k % 4))

-- how many there are
abbrev pub side_count : ℕ
side_count = 16384

-- the side with a number is one of the border
abbrev pub is_border_at : SquareTable → Bool → ℕ → Bool
is_border_at t up_first k = is_border (is_there t) (side_at up_first k)

-- each point where a side of the border ends is told by its bit
abbrev pub TellEnds : SquareTable → Bool → List ℕ → Type 0
TellEnds t up_first ends = (k : ℕ) → k < side_count → IsTrue (is_border_at t up_first k) → IsTrue (bit_of ends (k / 4))

-- the number of the side that follows
abbrev pub following_number : SquareTable → Bool → ℕ → ℕ
following_number t up_first k =
    side_number up_first (point_of (end_of (following (is_there t) (side_at up_first k)))) (following (is_there t) (side_at up_first k)).heading

-- the loop that goes along a round of sides
abbrev pub loop_along : SquareTable → Bool → List ℕ → PlaneLoop
loop_along t up_first round = record {
  square = left_square (side_at up_first (first round));
  corners = corners (is_there t) (map (side_at up_first) round);
}
