-- What the triangles of a solid's boundary keep: they close, and their rectangles cover the boundary.
use Rattle.std.specs.Prelude.{◌≡◌, Bool, ◌&&◌, ◌==◌, ℕ, List, [], ◌∷◌, ℤ, pos, ◌+ℤ◌, int_lt, int_le, if◌then◌else◌}
use Rattle.std.specs.List.{flat_map, count_by}
use Rattle.std.specs.Ordering.{int_eq}
use Rattle.face_laws.specs.GridFaces.{Planes}
use Rattle.solid_model.specs.declared.cell.Cell.{Cell}
use Rattle.solid_model.specs.declared.face.Out.{Out}
use Rattle.solid_model.specs.Cells.{same_cell}
use Rattle.solid_model.specs.Faces.{outward, right_axis, up_axis, out_number, is_boundary}
use Rattle.solid_model.specs.Rounds.{Spot}
use Rattle.stl_out.specs.declared.rectangle.Rectangle.{Rectangle}
use Rattle.stl_out.specs.declared.triangle.Triangle.{Triangle}

-- ---- directed edges

-- from one point to another
pub record DirectedEdge : Type 0 where
  pub from : Cell
  pub to : Cell

-- two names of one directed edge
abbrev pub same_edge : DirectedEdge → DirectedEdge → Bool
same_edge e f = same_cell e.from f.from && same_cell e.to f.to

-- the same edge, gone along the other way
abbrev pub reverse : DirectedEdge → DirectedEdge
reverse e = record { from = e.to; to = e.from }

-- the edges of a triangle, as it is gone round
abbrev pub edges_of : Triangle → List DirectedEdge
edges_of t = record { from = t.a; to = t.b } ∷ record { from = t.b; to = t.c } ∷ record { from = t.c; to = t.a } ∷ []

-- how often a directed edge occurs in some triangles
abbrev pub occurrences : DirectedEdge → List Triangle → ℕ
occurrences e ts = count_by (same_edge e) (flat_map edges_of ts)

-- triangles close: each directed edge occurs in them as often as its reverse
abbrev pub Close : List Triangle → Type 0
Close ts = (e : DirectedEdge) → occurrences e ts ≡ occurrences (reverse e) ts

-- ---- unit squares

-- a coordinate lies between the plane of a number and the next one
abbrev pub is_between_planes : (ℤ → ℤ) → ℤ → ℤ → Bool
is_between_planes line n z = int_le (line n) z && int_lt z (line (n +ℤ pos 1))

-- a unit square of the plane at a coordinate, with an outward side, lies in a rectangle
abbrev pub has_unit_square : Planes → Out → ℤ → Spot → Rectangle → Bool
has_unit_square planes out at p r = (out_number r.out == out_number out) && (int_eq (planes (outward out).axis r.at) at
    && (is_between_planes (planes (right_axis out)) r.right p.u && is_between_planes (planes (up_axis out)) r.up p.v))

-- Rectangles cover the boundary of the cells that are full: each unit square, with its outward side, lies in one of them where it
-- is a boundary square, and else in none.
abbrev pub CoverBoundary : Planes → (Cell → Bool) → List Rectangle → Type 0
CoverBoundary planes full rs = (out : Out) (at : ℤ) (p : Spot) → count_by (has_unit_square planes out at p) rs ≡ (if is_boundary full out at p then 1 else 0)
