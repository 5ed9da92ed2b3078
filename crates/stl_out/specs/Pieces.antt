-- Texts that go to a sink piece by piece.
use Rattle.std.specs.Prelude.{ℕ, List}
use Rattle.std.specs.List.{flat_map}
use Rattle.face_laws.specs.GridFaces.{Planes}
use Rattle.stl_out.specs.declared.rectangle.Rectangle.{Rectangle}
use Rattle.stl_out.specs.Rectangles.{triangles_of}
use Rattle.stl_out.specs.StlText.{facet_text}

-- the text of a rectangle's triangles
unfoldable pub rectangle_text : Planes → Rectangle → List ℕ
rectangle_text planes r = flat_map facet_text (triangles_of planes r)
