-- Texts that are put together line by line.
use Rattle.std.proofs.Common.{◌≡◌, List, [], ◌∷◌, ◌++◌, ℕ, refl, sym, ◌∙◌, ap, append_assoc, codes}
use Rattle.std.specs.Fmt.{signed_decimal}
use Rattle.std.specs.List.{flat_map}
use Rattle.std.proofs.lemmas.Grind.{flat_map-append}
use Rattle.std.proofs.lemmas.List.{append-nil}
use Rattle.face_laws.specs.GridFaces.{Planes}
use Rattle.solid_model.specs.declared.cell.Cell.{Cell}
use Rattle.stl_out.specs.declared.rectangle.Rectangle.{Rectangle}
use Rattle.stl_out.specs.declared.triangle.Triangle.{Triangle}
use Rattle.stl_out.specs.CornerParts.{corner_head, corner_end}
use Rattle.stl_out.specs.Pieces.{rectangle_text}
use Rattle.stl_out.specs.Rectangles.{triangles_of, all_triangles}
use Rattle.stl_out.specs.StlText.{outward_step, numbers_text, facet_text, stl_text}

-- a corner's line is its two parts
pub corner_line : (c : Cell) (t0 t1 t2 : List ℕ) → t1 ≡ t0 ++ corner_head c.x c.y → t2 ≡ t1 ++ corner_end c.z → t2 ≡ t0 ++ numbers_text (codes "vertex") c
unfolding numbers_text corner_head corner_end
corner_line c t0 t1 t2 e1 e2 = e2 ∙ ap (λ t. t ++ ((codes " " ++ signed_decimal c.z) ++ codes "\n")) e1 ∙ simp append_assoc

-- five parts, one behind another
in_order : (t a b c d e : List ℕ) → ((((t ++ a) ++ b) ++ c) ++ d) ++ e ≡ t ++ (a ++ b ++ c ++ d ++ e)
in_order t a b c d e = simp append_assoc

-- the lines of a triangle
pub facet_pushed : (f : Triangle) (t0 t1 t2 t3 t4 t5 : List ℕ) → t1 ≡ t0 ++ (numbers_text (codes "facet normal") (outward_step f.out) ++ codes "outer loop\n")
    → t2 ≡ t1 ++ numbers_text (codes "vertex") f.a → t3 ≡ t2 ++ numbers_text (codes "vertex") f.b
    → t4 ≡ t3 ++ numbers_text (codes "vertex") f.c → t5 ≡ t4 ++ codes "endloop\nendfacet\n" → t5 ≡ t0 ++ facet_text f
unfolding facet_text
facet_pushed f t0 t1 t2 t3 t4 t5 e1 e2 e3 e4 e5 =
    e5 ∙ ap (λ t. t ++ codes "endloop\nendfacet\n") (e4 ∙ ap (λ t. t ++ numbers_text (codes "vertex") f.c) (e3 ∙ ap (λ t. t ++ numbers_text (codes "vertex") f.b)
    (e2 ∙ ap (λ t. t ++ numbers_text (codes "vertex") f.a) e1)))
    ∙ in_order t0 (numbers_text (codes "facet normal") (outward_step f.out) ++ codes "outer loop\n") (numbers_text (codes "vertex") f.a)
    (numbers_text (codes "vertex") f.b) (numbers_text (codes "vertex") f.c) (codes "endloop\nendfacet\n")

-- the text of a rectangle is that of its two triangles
pub rectangle_pushed : (planes : Planes) (r : Rectangle) (a b : Triangle) (t0 t1 t2 : List ℕ) → triangles_of planes r ≡ a ∷ b ∷ [] → t1 ≡ t0 ++ facet_text a
    → t2 ≡ t1 ++ facet_text b → t2 ≡ t0 ++ rectangle_text planes r
unfolding rectangle_text
rectangle_pushed planes r a b t0 t1 t2 are e1 e2 =
    e2 ∙ ap (λ t. t ++ facet_text b) e1 ∙ append_assoc t0 (facet_text a) (facet_text b)
    ∙ ap (λ t. t0 ++ (facet_text a ++ t)) (sym (append-nil (facet_text b))) ∙ ap (λ ts. t0 ++ flat_map facet_text ts) (sym are)

-- the triangles of all rectangles, rectangle by rectangle
pub facets_by_rectangles : (planes : Planes) (rs : List Rectangle) → flat_map facet_text (all_triangles planes rs) ≡ flat_map (rectangle_text planes) rs
unfolding rectangle_text
facets_by_rectangles planes [] = refl
facets_by_rectangles planes (r ∷ rs) =
    flat_map-append facet_text (triangles_of planes r) (all_triangles planes rs) ∙ ap (λ t. flat_map facet_text (triangles_of planes r) ++ t) (facets_by_rectangles planes rs)

-- the text of a solid's triangles, from its first line on
pub whole_text : (planes : Planes) (rs : List Rectangle) (first : List ℕ) → first ≡ codes "solid recon\n"
    → stl_text (all_triangles planes rs) ≡ (first ++ flat_map (rectangle_text planes) rs) ++ codes "endsolid recon\n"
whole_text planes rs first is = λ i. (sym is i ++ facets_by_rectangles planes rs i) ++ codes "endsolid recon\n"
