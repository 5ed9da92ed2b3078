-- Squares of a plane, kept in a table.
use Rattle.std.specs.Prelude.{◌≡◌, Bool, false, ◌&&◌, ℕ, ◌+◌, ◌*◌, ◌≤◌, List, length, slice_index_or}
use Rattle.lemmas.specs.Bits.{is_set}
use Rattle.solid_model.specs.WalledBoxes.{is_below, place_of_number}
use Rattle.solid_model.specs.Rounds.{Spot}

-- rows of squares of a plane from (0, 0) to (63, 63): a number for each v, whose bit u stands for the square (u, v)
pub record SquareTable : Type 0 where
  pub rows : List ℕ

-- no more rows than that, and no more bits
pub record IsTable (t : SquareTable) : Type 0 where
  pub few : length t.rows ≤ 63
  pub narrow : (v : ℕ) → is_set (slice_index_or t.rows v 0) 63 ≡ false

-- the table has room for the spot's square
abbrev pub is_in_table : Spot → Bool
is_in_table p = is_below 63 p.u && is_below 63 p.v

-- the place of a square in it
abbrev pub square_place : Spot → ℕ
square_place p = place_of_number p.v * 64 + place_of_number p.u

-- which squares are there; beyond the table none is
abbrev pub is_there : SquareTable → Spot → Bool
is_there t p = is_in_table p && is_set (slice_index_or t.rows (place_of_number p.v) 0) (place_of_number p.u)
