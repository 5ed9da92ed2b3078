-- The triangles of a brick, written out by hand.
use Rattle.std.specs.Prelude.{List, [], ◌∷◌, ℤ, pos, negsuc}
use Rattle.solid_model.specs.declared.cell.Axis.TheVariants.{X, Y, Z}
use Rattle.solid_model.specs.declared.cell.Cell.{Cell}
use Rattle.solid_model.specs.declared.face.Out.TheVariants.{MinusX, PlusX, MinusY, PlusY, MinusZ, PlusZ}
use Rattle.solid_model.specs.Grid.{Coordinates}
use Rattle.stl_out.specs.declared.triangle.Triangle.{Triangle}

-- one grid cell, from -1 to 3 along x, from 0 to 2 along y and from 0 to 5 along z
abbrev pub brick_coordinates : Coordinates
brick_coordinates X = negsuc 0 ∷ pos 3 ∷ []
brick_coordinates Y = pos 0 ∷ pos 2 ∷ []
brick_coordinates Z = pos 0 ∷ pos 5 ∷ []

-- a point of its
abbrev pub point : ℤ → ℤ → ℤ → Cell
point x y z = record { x = x; y = y; z = z }

-- Two triangles for each side. Seen from outside each goes round counterclockwise, from the side's least corner by z, y, x.
abbrev pub brick_triangles : List Triangle
brick_triangles =
    record { out = MinusX; a = point (negsuc 0) (pos 0) (pos 0); b = point (negsuc 0) (pos 0) (pos 5); c = point (negsuc 0) (pos 2) (pos 5) }
    ∷ record { out = MinusX; a = point (negsuc 0) (pos 0) (pos 0); b = point (negsuc 0) (pos 2) (pos 5); c = point (negsuc 0) (pos 2) (pos 0) }
    ∷ record { out = PlusX; a = point (pos 3) (pos 0) (pos 0); b = point (pos 3) (pos 2) (pos 0); c = point (pos 3) (pos 2) (pos 5) }
    ∷ record { out = PlusX; a = point (pos 3) (pos 0) (pos 0); b = point (pos 3) (pos 2) (pos 5); c = point (pos 3) (pos 0) (pos 5) }
    ∷ record { out = MinusY; a = point (negsuc 0) (pos 0) (pos 0); b = point (pos 3) (pos 0) (pos 0); c = point (pos 3) (pos 0) (pos 5) }
    ∷ record { out = MinusY; a = point (negsuc 0) (pos 0) (pos 0); b = point (pos 3) (pos 0) (pos 5); c = point (negsuc 0) (pos 0) (pos 5) }
    ∷ record { out = PlusY; a = point (negsuc 0) (pos 2) (pos 0); b = point (negsuc 0) (pos 2) (pos 5); c = point (pos 3) (pos 2) (pos 5) }
    ∷ record { out = PlusY; a = point (negsuc 0) (pos 2) (pos 0); b = point (pos 3) (pos 2) (pos 5); c = point (pos 3) (pos 2) (pos 0) }
    ∷ record { out = MinusZ; a = point (negsuc 0) (pos 0) (pos 0); b = point (negsuc 0) (pos 2) (pos 0); c = point (pos 3) (pos 2) (pos 0) }
    ∷ record { out = MinusZ; a = point (negsuc 0) (pos 0) (pos 0); b = point (pos 3) (pos 2) (pos 0); c = point (pos 3) (pos 0) (pos 0) }
    ∷ record { out = PlusZ; a = point (negsuc 0) (pos 0) (pos 5); b = point (pos 3) (pos 0) (pos 5); c = point (pos 3) (pos 2) (pos 5) }
    ∷ record { out = PlusZ; a = point (negsuc 0) (pos 0) (pos 5); b = point (pos 3) (pos 2) (pos 5); c = point (negsuc 0) (pos 2) (pos 5) }
    ∷ []

-- the first of them
abbrev pub first_triangle : Triangle
first_triangle = record { out = MinusX; a = point (negsuc 0) (pos 0) (pos 0); b = point (negsuc 0) (pos 0) (pos 5); c = point (negsuc 0) (pos 2) (pos 5) }
