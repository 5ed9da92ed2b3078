-- The lines of a solid's faces, plane by plane.
use Rattle.std.specs.Prelude.{◌≡◌, ◌≤◌, ◌<◌, Bool, false, ℕ, List, length, map, take, ℤ, pos}
use Rattle.std.specs.List.{flat_map, sum_by}
use Rattle.solid_model.specs.declared.cell.Axis.TheVariants.{X, Y, Z}
use Rattle.solid_model.specs.declared.cell.Cell.{Cell}
use Rattle.solid_model.specs.declared.face.Out.{Out}
use Rattle.solid_model.specs.Faces.{FaceParts, AreFacesOf}
use Rattle.solid_model.specs.Grid.{Coordinates, IsUnionOf, gaps_along}
use Rattle.solid_model.specs.Marks.{BoxMarks, is_marked}
use Rattle.solid_model.specs.PerAxis.{numbers_of}
use Rattle.lemmas.specs.Lists.{Each}
use Rattle.cell_rows.specs.declared.changed_planes.ChangedPlanes.{ChangedPlanes}
use Rattle.cell_rows.specs.Planes.{is_plane_of}
use Rattle.face_laws.specs.GridFaces.{face_in_space, grid_planes}
use Rattle.faces.specs.FacesSoFar.{AreFacesBefore}
use Rattle.faces.specs.PlaneFaces.{AreBoundary, AreFacesOfSquares}
use Rattle.faces.specs.PlaneSquares.{SquareTable}
use Rattle.report.specs.Texts.{face_text}

-- the lines of the faces in a plane, which is told by its number, and how many they are
pub record PlaneLines : Type 0 where
  pub out : Out
  pub at : ℕ
  pub count : ℕ
  pub text : List ℕ

-- the lines are those of the faces of a solid of numbers in their plane, put in a grid's space, with so many decimals
pub record AreLines (decimals : ℕ) (coordinates : Coordinates) (full : Cell → Bool) (p : PlaneLines) : Type 0 where
  pub squares : SquareTable
  pub boundary : AreBoundary full p.out (pos p.at) squares
  pub faces : List FaceParts
  pub are : AreFacesOfSquares squares p.out (pos p.at) faces
  pub count : length faces ≡ p.count
  pub text : p.text ≡ flat_map (face_text decimals) (map (face_in_space (grid_planes coordinates)) faces)

-- and their plane is this one
pub record AreLinesIn (decimals : ℕ) (coordinates : Coordinates) (full : Cell → Bool) (out : Out) (at : ℕ) (p : PlaneLines) : Type 0 where
  pub out_is : p.out ≡ out
  pub at_is : p.at ≡ at
  pub lines : AreLines decimals coordinates full p

-- they are, unless their plane is one of those that have changed
pub record AreLinesUnlessChanged (decimals : ℕ) (coordinates : Coordinates) (full : Cell → Bool) (changed : ChangedPlanes) (p : PlaneLines) : Type 0 where
  pub kept : p.at < 64 → is_plane_of changed p.out p.at ≡ false → AreLines decimals coordinates full p

-- ---- several planes

-- how many lines there are
abbrev pub line_count : List PlaneLines → ℕ
line_count planes = sum_by (λ p. p.count) planes

-- all lines
abbrev pub all_lines : List PlaneLines → List ℕ
all_lines planes = flat_map (λ p. p.text) planes

-- they are those of all faces of a solid of numbers that lie in earlier planes than the plane m of the side n
pub record AreLinesBefore (decimals : ℕ) (coordinates : Coordinates) (full : Cell → Bool) (n m : ℕ) (planes : List PlaneLines) : Type 0 where
  pub faces : List FaceParts
  pub are : AreFacesBefore full n m faces
  pub count : length faces ≡ line_count planes
  pub text : all_lines planes ≡ flat_map (face_text decimals) (map (face_in_space (grid_planes coordinates)) faces)
  pub each : Each (AreLines decimals coordinates full) planes

-- the first of a list are, so many of them, and all are lines of such faces
pub record AreFirstLines (decimals : ℕ) (coordinates : Coordinates) (full : Cell → Bool) (n m : ℕ) (planes : List PlaneLines) (count : ℕ) : Type 0 where
  pub before : AreLinesBefore decimals coordinates full n m (take count planes)
  pub within : count ≤ length planes

-- they are those of all faces of the union of chosen grid cells
pub record AreAllLines (decimals : ℕ) (coordinates : Coordinates) (cells : List Bool) (planes : List PlaneLines) : Type 0 where
  pub faces : List FaceParts
  pub are : (full : Cell → Bool) → IsUnionOf coordinates cells full → AreFacesOf full faces
  pub count : length faces ≡ line_count planes
  pub text : all_lines planes ≡ flat_map (face_text decimals) faces

-- ---- planes of a grid

-- planes whose lines are put in the space of a grid with these coordinates, with so many decimals, and the marked cells of whose
-- faces they are
pub record GridLines : Type 0 where
  pub decimals : ℕ
  pub xs : List ℤ
  pub ys : List ℤ
  pub zs : List ℤ
  pub rows : BoxMarks
  pub planes : List PlaneLines

-- the coordinates
abbrev pub listed : GridLines → Coordinates
listed g X = g.xs
listed g Y = g.ys
listed g Z = g.zs

-- there is a cell for each gap between the coordinates, and the lines are those of the marked cells
pub record AreLinesOfRows (g : GridLines) : Type 0 where
  pub sized : numbers_of g.rows.sizes ≡ gaps_along (listed g)
  pub each : Each (AreLines g.decimals (listed g) (is_marked g.rows)) g.planes
