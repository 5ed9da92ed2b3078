-- The squares of a table by their places, and the steps between neighbours.
use Rattle.std.specs.Prelude.{◌≡◌, ◌↔◌, ◌&&◌, ℕ, ◌*◌, ◌/◌, ◌%◌, ◌<◌, List, length, slice_index_or, Option, Some, None, pos, IsTrue, if◌then◌else◌}
use Rattle.solid_model.specs.Rounds.{Spot, spot_after, AreNeighbours, AreJoined}
use Rattle.faces.specs.Ways.{heading_at}
use Rattle.faces.specs.PlaneSquares.{SquareTable, square_place, is_there}

-- how many places a table's rows have
abbrev pub place_count : SquareTable → ℕ
place_count t = length t.rows * 64

-- the square that has a place
abbrev pub square_at_place : ℕ → Spot
square_at_place p = record { u = pos (p % 64); v = pos (p / 64) }

-- one step: both places are those of squares that are there, and these are neighbours
pub record IsSquareStep (t : SquareTable) (a b : ℕ) : Type 0 where
  pub from : a < place_count t
  pub to : b < place_count t
  pub neighbours : AreNeighbours (is_there t) (square_at_place a) (square_at_place b)

-- four ways lead from each square: the place of the neighbour to which one leads, where both are there
abbrev pub next_square : SquareTable → ℕ → ℕ → Option ℕ
next_square t a way =
    if is_there t (square_at_place a) && is_there t (spot_after (heading_at way) (square_at_place a))
    then Some (square_place (spot_after (heading_at way) (square_at_place a))) else None

-- the number that a list has for a square
abbrev pub number_of : List ℕ → Spot → ℕ
number_of numbers p = slice_index_or numbers (square_place p) 0

-- Squares that are there have the same number exactly where chains of neighbours join them. So many numbers are given.
pub record AreSquareComponents (t : SquareTable) (numbers : List ℕ) (count : ℕ) : Type 0 where
  pub listed : length numbers ≡ place_count t
  pub below : (p : Spot) → IsTrue (is_there t p) → number_of numbers p < count
  pub joined : (p q : Spot) → IsTrue (is_there t p) → IsTrue (is_there t q)
      → (number_of numbers p ≡ number_of numbers q) ↔ AreJoined (is_there t) p q
