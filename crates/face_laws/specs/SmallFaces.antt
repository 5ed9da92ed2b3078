-- Small solids whose faces are written out.
use Rattle.std.specs.Prelude.{Bool, not, ◌&&◌, ◌||◌, ℕ, List, [], ◌∷◌, pos, int_le, int_lt}
use Rattle.std.specs.Ordering.{int_eq}
use Rattle.solid_model.specs.declared.cell.Cell.{Cell}
use Rattle.solid_model.specs.declared.face.Out.TheVariants.{MinusX, PlusX, MinusY, PlusY, MinusZ, PlusZ}
use Rattle.solid_model.specs.Cells.{cell_at, same_cell}
use Rattle.solid_model.specs.Faces.{FaceParts}
use Rattle.solid_model.specs.Rounds.{Spot}

-- the least square of a plane whose squares begin at 0
abbrev pub first_square : Spot
first_square = record { u = pos 0; v = pos 0 }

-- the faces of the unit cube
abbrev pub unit_cube_faces : List FaceParts
unit_cube_faces =
    record { out = MinusX; at = pos 0; loops = (cell_at 0 0 0 ∷ cell_at 0 0 1 ∷ cell_at 0 1 1 ∷ cell_at 0 1 0 ∷ []) ∷ [] }
    ∷ record { out = PlusX; at = pos 1; loops = (cell_at 1 0 0 ∷ cell_at 1 1 0 ∷ cell_at 1 1 1 ∷ cell_at 1 0 1 ∷ []) ∷ [] }
    ∷ record { out = MinusY; at = pos 0; loops = (cell_at 0 0 0 ∷ cell_at 1 0 0 ∷ cell_at 1 0 1 ∷ cell_at 0 0 1 ∷ []) ∷ [] }
    ∷ record { out = PlusY; at = pos 1; loops = (cell_at 0 1 0 ∷ cell_at 0 1 1 ∷ cell_at 1 1 1 ∷ cell_at 1 1 0 ∷ []) ∷ [] }
    ∷ record { out = MinusZ; at = pos 0; loops = (cell_at 0 0 0 ∷ cell_at 0 1 0 ∷ cell_at 1 1 0 ∷ cell_at 1 0 0 ∷ []) ∷ [] }
    ∷ record { out = PlusZ; at = pos 1; loops = (cell_at 0 0 1 ∷ cell_at 1 0 1 ∷ cell_at 1 1 1 ∷ cell_at 0 1 1 ∷ []) ∷ [] }
    ∷ []

-- of two unit cubes in a row, with a gap of 1 between them, the faces to the left, and then those in front
abbrev pub faces_apart : List FaceParts
faces_apart =
    record { out = MinusX; at = pos 0; loops = (cell_at 0 0 0 ∷ cell_at 0 0 1 ∷ cell_at 0 1 1 ∷ cell_at 0 1 0 ∷ []) ∷ [] }
    ∷ record { out = MinusX; at = pos 2; loops = (cell_at 2 0 0 ∷ cell_at 2 0 1 ∷ cell_at 2 1 1 ∷ cell_at 2 1 0 ∷ []) ∷ [] }
    ∷ record { out = MinusY; at = pos 0; loops = (cell_at 0 0 0 ∷ cell_at 1 0 0 ∷ cell_at 1 0 1 ∷ cell_at 0 0 1 ∷ []) ∷ [] }
    ∷ record { out = MinusY; at = pos 0; loops = (cell_at 2 0 0 ∷ cell_at 3 0 0 ∷ cell_at 3 0 1 ∷ cell_at 2 0 1 ∷ []) ∷ [] }
    ∷ []

-- a square plate of height 1, so many cells wide
abbrev pub plate : ℕ → Cell → Bool
plate wide c = int_eq c.z (pos 0)
    && ((int_le (pos 0) c.x && int_lt c.x (pos wide)) && (int_le (pos 0) c.y && int_lt c.y (pos wide)))

-- a plate with a square hole in its middle
abbrev pub pierced_plate : Cell → Bool
pierced_plate c = plate 3 c && not (same_cell (cell_at 1 1 0) c)

-- a plate with two holes that touch at a corner
abbrev pub twice_pierced_plate : Cell → Bool
twice_pierced_plate c = plate 4 c && not (same_cell (cell_at 1 1 0) c || same_cell (cell_at 2 2 0) c)

-- what is seen of the first from above: its outline and its hole
abbrev pub pierced_loops : List (List Cell)
pierced_loops =
    (cell_at 0 0 1 ∷ cell_at 3 0 1 ∷ cell_at 3 3 1 ∷ cell_at 0 3 1 ∷ [])
    ∷ (cell_at 1 1 1 ∷ cell_at 1 2 1 ∷ cell_at 2 2 1 ∷ cell_at 2 1 1 ∷ [])
    ∷ []

-- what is seen of the second: both holes are in one loop, which passes the corner (2, 2) twice
abbrev pub twice_pierced_loops : List (List Cell)
twice_pierced_loops =
    (cell_at 0 0 1 ∷ cell_at 4 0 1 ∷ cell_at 4 4 1 ∷ cell_at 0 4 1 ∷ [])
    ∷ (cell_at 1 1 1 ∷ cell_at 1 2 1 ∷ cell_at 2 2 1 ∷ cell_at 2 3 1
    ∷ cell_at 3 3 1 ∷ cell_at 3 2 1 ∷ cell_at 2 2 1 ∷ cell_at 2 1 1 ∷ [])
    ∷ []

-- a cube of 3 with a void of 1 in its middle
abbrev pub hollow_cube : Cell → Bool
hollow_cube c = ((int_le (pos 0) c.x && int_lt c.x (pos 3)) && ((int_le (pos 0) c.y && int_lt c.y (pos 3)) && (int_le (pos 0) c.z && int_lt c.z (pos 3))))
    && not (same_cell (cell_at 1 1 1) c)

-- the square at the void, in the planes that bound it
abbrev pub middle_square : Spot
middle_square = record { u = pos 1; v = pos 1 }

-- what bounds the void at x = 1, seen from within it
abbrev pub void_loops : List (List Cell)
void_loops = (cell_at 1 1 1 ∷ cell_at 1 2 1 ∷ cell_at 1 2 2 ∷ cell_at 1 1 2 ∷ []) ∷ []
