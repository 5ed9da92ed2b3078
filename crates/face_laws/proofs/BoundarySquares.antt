-- A solid has finitely many boundary squares.
use Rattle.std.proofs.Common.{◌≡◌, Bool, true, not, List, map, ℤ, IsTrue, refl, subst}
use Rattle.std.proofs.lemmas.Bool.{and_parts}
use Rattle.solid_model.specs.declared.cell.Cell.{Cell}
use Rattle.solid_model.specs.declared.face.Out.{Out}
use Rattle.solid_model.specs.declared.face.Out.TheVariants.{MinusX, PlusX, MinusY, PlusY, MinusZ, PlusZ}
use Rattle.solid_model.specs.Cells.{coordinate, is_full}
use Rattle.solid_model.specs.Faces.{right_axis, up_axis, inner_cell, outer_cell, is_boundary}
use Rattle.lemmas.specs.Lists.{Member}
use Rattle.solid_model.specs.Rounds.{Spot, Side, left_square, right_square, is_border}
use Rattle.solid_model.proofs.Fullness.{is_full-member}
use Rattle.lemmas.proofs.Lists.{member-map}

-- on the left of a border side lies one of the squares
pub border_left : (squares : Spot → Bool) (s : Side) → IsTrue (is_border squares s) → squares (left_square s) ≡ true
border_left squares s border = (and_parts (squares (left_square s)) (not (squares (right_square s))) border).0

-- the square at which a cell stands, for whoever looks at it from outside
abbrev pub spot_of : Out → Cell → Spot
spot_of out c = record { u = coordinate (right_axis out) c; v = coordinate (up_axis out) c }

spot_of-inner : (out : Out) (at : ℤ) (p : Spot) → spot_of out (inner_cell out at p) ≡ p
spot_of-inner MinusX at p = refl
spot_of-inner PlusX at p = refl
spot_of-inner MinusY at p = refl
spot_of-inner PlusY at p = refl
spot_of-inner MinusZ at p = refl
spot_of-inner PlusZ at p = refl

-- a boundary square has a full cell
pub inner_full : (full : Cell → Bool) (out : Out) (at : ℤ) (p : Spot) → IsTrue (is_boundary full out at p)
    → full (inner_cell out at p) ≡ true
inner_full full out at p is = (and_parts (full (inner_cell out at p)) (not (full (outer_cell out at p))) is).0

-- so those in a plane are squares at which cells of the solid stand
pub boundary_within : (s : List Cell) (full : Cell → Bool) → ((c : Cell) → full c ≡ true → Member s c)
    → (out : Out) (at : ℤ) (p : Spot)
    → IsTrue (is_boundary full out at p) → Member (map (spot_of out) s) p
boundary_within s full finite out at p is =
    subst (Member (map (spot_of out) s)) (spot_of-inner out at p)
    (member-map (spot_of out) s (inner_cell out at p) (finite (inner_cell out at p) (inner_full full out at p is)))

pub boundary_finite : (s : List Cell) (out : Out) (at : ℤ) (p : Spot) → IsTrue (is_boundary (is_full s) out at p)
    → Member (map (spot_of out) s) p
boundary_finite s = boundary_within s (is_full s) (is_full-member s)
