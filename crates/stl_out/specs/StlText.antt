-- The text of triangles: ASCII STL (3D Systems, StereoLithography Interface Specification, 1988).
use Rattle.std.specs.Prelude.{◌≡◌, Bool, ℕ, List, ◌++◌, codes, pos, negsuc, if◌then◌else◌}
use Rattle.std.specs.Fmt.{signed_decimal}
use Rattle.std.specs.List.{flat_map}
use Rattle.solid_model.specs.declared.cell.Cell.{Cell}
use Rattle.solid_model.specs.declared.face.Out.{Out}
use Rattle.solid_model.specs.Cells.{cell_at, placed}
use Rattle.solid_model.specs.Faces.{outward}
use Rattle.solid_model.specs.Grid.{Coordinates}
use Rattle.stl_out.specs.declared.triangle.Triangle.{Triangle}
use Rattle.stl_out.specs.Rectangles.{AreTrianglesOf}

-- the step of 1 outwards
abbrev pub outward_step : Out → Cell
outward_step out = placed (outward out).axis (if (outward out).forward then pos 1 else negsuc 0) (cell_at 0 0 0)

-- a word and three numbers, on a line
unfoldable pub numbers_text : List ℕ → Cell → List ℕ
numbers_text word c = word ++ codes " " ++ signed_decimal c.x ++ codes " " ++ signed_decimal c.y ++ codes " " ++ signed_decimal c.z ++ codes "\n"

-- a triangle: its normal, and its corners
unfoldable pub facet_text : Triangle → List ℕ
facet_text t = numbers_text (codes "facet normal") (outward_step t.out) ++ codes "outer loop\n"
    ++ numbers_text (codes "vertex") t.a ++ numbers_text (codes "vertex") t.b ++ numbers_text (codes "vertex") t.c ++ codes "endloop\nendfacet\n"

-- the text of a solid's triangles
abbrev pub stl_text : List Triangle → List ℕ
stl_text ts = codes "solid recon\n" ++ flat_map facet_text ts ++ codes "endsolid recon\n"

-- the text of the union of the grid cells that are chosen
abbrev pub IsStlOf : Coordinates → List Bool → List ℕ → Type 0
IsStlOf coordinates chosen text = (ts : List Triangle) × AreTrianglesOf coordinates chosen ts × (text ≡ stl_text ts)
