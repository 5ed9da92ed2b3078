-- The boundary rectangles of a solid that is made of grid cells, in their order, and the triangles that they give. Grid cells,
-- faces and points are told by the numbers of the grid's coordinates, and so are unit cells, squares and points once more.
use Rattle.std.specs.Prelude.{◌≡◌, Bool, ◌&&◌, ◌||◌, nat_eq, nat_lt, List, [], ◌∷◌, int_lt, IsTrue}
use Rattle.std.specs.Ordering.{int_eq}
use Rattle.std.specs.List.{flat_map}
use Rattle.face_laws.specs.GridFaces.{Planes, point_of_numbers, grid_planes, numbered_fullness}
use Rattle.solid_model.specs.declared.cell.Cell.{Cell}
use Rattle.solid_model.specs.Faces.{place, is_boundary, out_number}
use Rattle.solid_model.specs.Grid.{Coordinates}
use Rattle.lemmas.specs.Lists.{Member, Each, Ascends}
use Rattle.solid_model.specs.Orders.{is_before}
use Rattle.solid_model.specs.Rounds.{Spot, East, North, spot_after}
use Rattle.stl_out.specs.declared.rectangle.Rectangle.{Rectangle}
use Rattle.stl_out.specs.declared.triangle.Triangle.{Triangle}

-- ---- rectangles

-- the square of its plane
abbrev pub square_of : Rectangle → Spot
square_of r = record { u = r.right; v = r.up }

-- a boundary rectangle lies between a full grid cell, inwards, and an empty one, outwards
abbrev pub is_boundary_rectangle : (Cell → Bool) → Rectangle → Bool
is_boundary_rectangle full r = is_boundary full r.out r.at (square_of r)

-- its least corner, by number
abbrev pub least_corner : Rectangle → Cell
least_corner r = place r.out r.at (square_of r)

-- rectangles are ordered by outward side, then plane, then their least corners
abbrev pub is_rectangle_before : Rectangle → Rectangle → Bool
is_rectangle_before r s = nat_lt (out_number r.out) (out_number s.out) || (nat_eq (out_number r.out) (out_number s.out)
    && (int_lt r.at s.at || (int_eq r.at s.at && is_before (least_corner r) (least_corner s))))

-- the same as a fact
abbrev pub RectangleBefore : Rectangle → Rectangle → Type 0
RectangleBefore r s = IsTrue (is_rectangle_before r s)

-- all boundary rectangles of the solid whose grid cells are full, each once, in order
pub record AreRectanglesOf (full : Cell → Bool) (rs : List Rectangle) : Type 0 where
  pub each : Each (λ r. IsTrue (is_boundary_rectangle full r)) rs
  pub ordered : Ascends RectangleBefore rs
  pub complete : (r : Rectangle) → IsTrue (is_boundary_rectangle full r) → Member rs r

-- ---- triangles

-- where a grid point of a rectangle's plane stands in space
abbrev pub corner : Planes → Rectangle → Spot → Cell
corner planes r p = point_of_numbers planes (place r.out r.at p)

-- its corners, from the least one on, to the right, upwards, and to the left: counterclockwise as seen from outside
abbrev pub corner_p : Planes → Rectangle → Cell
corner_p planes r = corner planes r (square_of r)

abbrev pub corner_q : Planes → Rectangle → Cell
corner_q planes r = corner planes r (spot_after East (square_of r))

abbrev pub corner_r : Planes → Rectangle → Cell
corner_r planes r = corner planes r (spot_after North (spot_after East (square_of r)))

abbrev pub corner_s : Planes → Rectangle → Cell
corner_s planes r = corner planes r (spot_after North (square_of r))

-- the triangles p q r and p r s
abbrev pub triangles_of : Planes → Rectangle → List Triangle
triangles_of planes r =
    record { out = r.out; a = corner_p planes r; b = corner_q planes r; c = corner_r planes r }
    ∷ record { out = r.out; a = corner_p planes r; b = corner_r planes r; c = corner_s planes r }
    ∷ []

-- those of all rectangles
abbrev pub all_triangles : Planes → List Rectangle → List Triangle
all_triangles planes rs = flat_map (triangles_of planes) rs

-- the triangles of the union of the grid cells that are chosen
abbrev pub AreTrianglesOf : Coordinates → List Bool → List Triangle → Type 0
AreTrianglesOf coordinates chosen ts =
    (rs : List Rectangle) × AreRectanglesOf (numbered_fullness coordinates chosen) rs × (ts ≡ all_triangles (grid_planes coordinates) rs)
