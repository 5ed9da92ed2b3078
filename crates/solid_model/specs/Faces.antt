-- The faces of a solid, and the list of them. A face is joined squares, wherever they meet: between two neighbouring
-- boundary squares of one plane and outward side there is never an edge (`faces_end_at_edges`). Its loops follow the border
-- of all boundary squares of the plane, which loses nothing: across a side from the face lies another of its squares or no
-- boundary square at all.
use Rattle.std.specs.Prelude.{◌≡◌, Bool, false, not, ◌&&◌, ◌||◌, nat_eq, nat_lt, ℕ, List, [], ◌∷◌, map, ℤ, int_lt, IsTrue, if◌then◌else◌}
use Rattle.std.specs.Ordering.{int_eq}
use Rattle.solid_model.specs.declared.cell.Axis.{Axis}
use Rattle.solid_model.specs.declared.cell.Axis.TheVariants.{X, Y, Z}
use Rattle.solid_model.specs.declared.cell.Cell.{Cell}
use Rattle.solid_model.specs.declared.face.Out.{Out}
use Rattle.solid_model.specs.declared.face.Out.TheVariants.{MinusX, PlusX, MinusY, PlusY, MinusZ, PlusZ}
use Rattle.solid_model.specs.declared.frame.Direction.{Direction}
use Rattle.solid_model.specs.Cells.{cell_before}
use Rattle.solid_model.specs.Edges.{second_axis, third_axis}
use Rattle.solid_model.specs.Frames.{forward, backward, at_places}
use Rattle.lemmas.specs.Lists.{Member, Each, Ascends}
use Rattle.solid_model.specs.Orders.{is_before, ComesBefore}
use Rattle.solid_model.specs.Rounds.{Spot, Side, left_square, IsRound, round_corners, AreJoined}

-- ---- planes, seen from outside

-- the direction that leads outwards
abbrev pub outward : Out → Direction
outward MinusX = backward X
outward PlusX = forward X
outward MinusY = backward Y
outward PlusY = forward Y
outward MinusZ = backward Z
outward PlusZ = forward Z

-- the axis that runs to the right, for whoever looks at a plane from outside
abbrev pub right_axis : Out → Axis
right_axis out = if (outward out).forward then second_axis (outward out).axis else third_axis (outward out).axis

-- and the one that runs upwards
abbrev pub up_axis : Out → Axis
up_axis out = if (outward out).forward then third_axis (outward out).axis else second_axis (outward out).axis

-- the point of space at a spot of the plane at a coordinate; also the cell that begins there
abbrev pub place : Out → ℤ → Spot → Cell
place out at p = at_places (outward out).axis at (right_axis out) p.u (up_axis out) p.v

-- of the two cells at a square of the plane, the one that lies inwards
abbrev pub inner_cell : Out → ℤ → Spot → Cell
inner_cell out at p = if (outward out).forward then cell_before (outward out).axis (place out at p) else place out at p

-- and the one that lies outwards
abbrev pub outer_cell : Out → ℤ → Spot → Cell
outer_cell out at p = if (outward out).forward then place out at p else cell_before (outward out).axis (place out at p)

-- a boundary square of the solid whose cells are full: it lies between a full cell, inwards, and an empty one, outwards
abbrev pub is_boundary : (Cell → Bool) → Out → ℤ → Spot → Bool
is_boundary full out at p = full (inner_cell out at p) && not (full (outer_cell out at p))

-- ---- loops

-- no other corner of a loop comes before its first one, or is it
abbrev pub BeginsLeast : List Cell → Type 0
BeginsLeast [] = ⊥
BeginsLeast (c ∷ cs) = Each (ComesBefore c) cs

-- A loop of the face that has the square q: the corners of a round along the border of squares joined with q, which then lie
-- on its left, from its least corner on.
abbrev pub IsLoopOf : (Spot → Bool) → (Spot → Cell) → Spot → List Cell → Type 0
IsLoopOf squares there q loop = (s : Side) × (n : ℕ) × IsRound squares s n × AreJoined squares q (left_square s)
    × (loop ≡ map there (round_corners squares s n)) × BeginsLeast loop

-- the first corner of a loop comes before that of another
abbrev pub starts_before : List Cell → List Cell → Bool
starts_before (c ∷ cs) (d ∷ ds) = is_before c d
starts_before _ _ = false

-- the same as a fact
abbrev pub StartsBefore : List Cell → List Cell → Type 0
StartsBefore l m = IsTrue (starts_before l m)

-- all loops of the face that has the square q, by their first corners
pub record AreLoopsOf (squares : Spot → Bool) (there : Spot → Cell) (q : Spot) (loops : List (List Cell)) : Type 0 where
  pub each : Each (IsLoopOf squares there q) loops
  pub ordered : Ascends StartsBefore loops
  pub complete : (loop : List Cell) → IsLoopOf squares there q loop → Member loops loop

-- ---- faces

-- a face: its outward side, the coordinate of its plane, and its loops
pub record FaceParts : Type 0 where
  pub out : Out
  pub at : ℤ
  pub loops : List (List Cell)

-- the face of the solid that has the boundary square q: all that chains of neighbouring boundary squares of its plane and
-- outward side join with it
abbrev pub IsFaceAt : (Cell → Bool) → Spot → FaceParts → Type 0
IsFaceAt full q f = IsTrue (is_boundary full f.out f.at q) × AreLoopsOf (is_boundary full f.out f.at) (place f.out f.at) q f.loops

-- the order of outward sides
abbrev pub out_number : Out → ℕ
out_number MinusX = 0
out_number PlusX = 1
out_number MinusY = 2
out_number PlusY = 3
out_number MinusZ = 4
out_number PlusZ = 5

-- the first loop of a face
abbrev pub first_loop : List (List Cell) → List Cell
first_loop [] = []
first_loop (l ∷ ls) = l

-- faces are ordered by outward side, then plane, then the first corner of their first loop
abbrev pub is_face_before : FaceParts → FaceParts → Bool
is_face_before f g = nat_lt (out_number f.out) (out_number g.out) || (nat_eq (out_number f.out) (out_number g.out)
    && (int_lt f.at g.at || (int_eq f.at g.at && starts_before (first_loop f.loops) (first_loop g.loops))))

-- the same as a fact
abbrev pub FaceBefore : FaceParts → FaceParts → Type 0
FaceBefore f g = IsTrue (is_face_before f g)

-- the face list of a solid: each is a face of it, they are in order, and each boundary square has its face
pub record AreFacesOf (full : Cell → Bool) (faces : List FaceParts) : Type 0 where
  pub each : Each (λ f. (q : Spot) × IsFaceAt full q f) faces
  pub ordered : Ascends FaceBefore faces
  pub complete : (out : Out) (at : ℤ) (q : Spot) → IsTrue (is_boundary full out at q)
      → (f : FaceParts) × Member faces f × (f.out ≡ out) × (f.at ≡ at) × IsFaceAt full q f
