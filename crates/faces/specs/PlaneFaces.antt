-- The faces of a solid in one plane.
use Rattle.std.specs.Prelude.{◌≡◌, Bool, true, false, ◌-◌, List, length, map, ℤ, pos, ◌≤ℤ◌, IsTrue}
use Rattle.solid_model.specs.declared.cell.Axis.{Axis}
use Rattle.solid_model.specs.declared.cell.Cell.{Cell}
use Rattle.solid_model.specs.declared.face.Out.{Out}
use Rattle.solid_model.specs.declared.face.Out.TheVariants.{MinusX, PlusX, MinusY, PlusY, MinusZ, PlusZ}
use Rattle.solid_model.specs.Faces.{place, is_boundary, FaceParts, IsFaceAt, FaceBefore}
use Rattle.solid_model.specs.Grid.{Coordinates}
use Rattle.lemmas.specs.Lists.{Member, Each, Ascends}
use Rattle.solid_model.specs.Marks.{BoxMarks, is_marked}
use Rattle.solid_model.specs.PerAxis.{numbers_of}
use Rattle.solid_model.specs.Rounds.{Spot}
use Rattle.faces.specs.PlaneLoops.{PlaneLoop}
use Rattle.faces.specs.PlaneSquares.{SquareTable, is_there}

-- Of the two axes of a plane the later one of x, y and z decides first which of two points comes first. Here it is the one that
-- runs upwards, or else the one that runs to the right.
abbrev pub is_up_first : Out → Bool
is_up_first MinusX = false
is_up_first PlusX = true
is_up_first MinusY = true
is_up_first PlusY = false
is_up_first MinusZ = false
is_up_first PlusZ = true

-- a loop of a plane, in space
abbrev pub loop_in_space : Out → ℤ → PlaneLoop → List Cell
loop_in_space out at l = map (place out at) l.corners

-- a face that has these loops
abbrev pub face_of : Out → ℤ → List PlaneLoop → FaceParts
face_of out at loops = record { out = out; at = at; loops = map (loop_in_space out at) loops }

-- the list of those faces of a solid that have this outward side and lie in this plane
pub record AreFacesInPlane (full : Cell → Bool) (out : Out) (at : ℤ) (faces : List FaceParts) : Type 0 where
  pub each : Each (λ f. (f.out ≡ out) × (f.at ≡ at) × ((q : Spot) × IsFaceAt full q f)) faces
  pub ordered : Ascends FaceBefore faces
  pub complete : (q : Spot) → IsTrue (is_boundary full out at q) → (f : FaceParts) × Member faces f × IsFaceAt full q f

-- these squares are the boundary squares of a solid in a plane
abbrev pub AreBoundary : (Cell → Bool) → Out → ℤ → SquareTable → Type 0
AreBoundary full out at t = (q : Spot) → is_there t q ≡ is_boundary full out at q

-- the faces of squares in a plane: those of each solid whose boundary squares they are
abbrev pub AreFacesOfSquares : SquareTable → Out → ℤ → List FaceParts → Type 0
AreFacesOfSquares t out at faces = (full : Cell → Bool) → AreBoundary full out at t → AreFacesInPlane full out at faces

-- these squares are the boundary squares of marked cells, as many along each axis as a grid has
pub record LieOnGrid (coordinates : Coordinates) (t : SquareTable) (out : Out) (at : ℤ) : Type 0 where
  pub marks : BoxMarks
  pub sized : (a : Axis) → numbers_of marks.sizes a ≡ length (coordinates a) - 1
  pub are : AreBoundary (is_marked marks) out at t

-- a point whose coordinates are small
abbrev pub IsNearSpot : Spot → Type 0
IsNearSpot p = (p.u ≤ℤ pos 1024) × (p.v ≤ℤ pos 1024)

-- a loop all of whose corners are
abbrev pub IsNearLoop : PlaneLoop → Type 0
IsNearLoop l = Each IsNearSpot l.corners
