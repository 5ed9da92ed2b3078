-- What a line covers, as a stroke.
use Rattle.std.proofs.Common.{◌≡◌, ℕ, ◌+◌, ◌<◌, Bool, true, false, not, ◌&&◌, ◌||◌, List, [], ◌∷◌, ◌++◌, length, get_or, drop, if◌then◌else◌, ℤ, ◌+ℤ◌, ◌-ℤ◌, int_lt, int_le, int_eq, refl, sym, ap, ap₂, ◌∙◌, arith}
use Rattle.std.specs.Int.{int_min, int_max}
use Rattle.std.specs.List.{list_any}
use Rattle.std.proofs.lemmas.Bool.{and_parts, false_from_ne_true, both_ways}
use Rattle.std.proofs.lemmas.Bool.Decides.{Decides-int_eq}
use Rattle.std.proofs.lemmas.Cmp.{int_eq_equiv}
use Rattle.std.proofs.lemmas.Int.{ints, clamps}
use Rattle.std.proofs.lemmas.List.{at_drop_more}
use Rattle.std.proofs.lemmas.List.Folds.{list_any-append}
use Rattle.std.proofs.Math.Bool.{and_assoc}
use Rattle.solid_model.specs.declared.frame.View.{View}
use Rattle.solid_model.specs.declared.frame.View.TheVariants.{Front, Top, Side}
use Rattle.solid_model.specs.declared.segment.Segment.{Segment}
use Rattle.solid_model.specs.declared.segment.Style.{Style}
use Rattle.solid_model.specs.Drawings.{same_view, same_style, is_between, covers, is_covered}
use Rattle.solid_model.specs.Segments.{along_of, across_of, start_of, line_of}
use Rattle.solid_model.specs.Line.{Line}
use Rattle.views.specs.declared.corner.Corner.{Corner}
use Rattle.views.specs.declared.strokes.Stroke.{Stroke}
use Rattle.views.specs.Corners.{from_corner}
use Rattle.views.specs.LineStrokes.{covers_along, stroke_of}
use Rattle.views.specs.Strokes.{stroke_covers, is_drawn}

-- ---- places along and across

-- between two ends, in either order
between_is : (a b z : ℤ) → is_between a b z ≡ (int_le (int_min a b) z && int_lt z (int_max a b))
between_is a b z = grind (arith, ints, clamps)

-- ends that a place lies between differ
between_differ : (a b z : ℤ) → (int_le (int_min a b) z && int_lt z (int_max a b)) ≡ true → int_eq a b ≡ false
between_differ a b z t =
    let p = and_parts (int_le (int_min a b) z) (int_lt z (int_max a b)) t in
    false_from_ne_true (int_eq a b) (λ e. let same = (Decides-int_eq a b).0 e in omega (arith, ints, clamps, p.0, p.1, same))

-- to shift one number back is to shift the other forward
le-shifted : (a z by : ℤ) → int_le (a -ℤ by) z ≡ int_le a (z +ℤ by)
le-shifted a z by = grind (arith, ints)

-- the same, before
lt-shifted : (z b by : ℤ) → int_lt z (b -ℤ by) ≡ int_lt (z +ℤ by) b
lt-shifted z b by = grind (arith, ints)

-- the same, equal
eq-shifted : (a j by : ℤ) → int_eq (a -ℤ by) j ≡ int_eq a (j +ℤ by)
eq-shifted a j by = grind (arith, ints)

-- of two ends on one line the second is tested by the first
ends_together : (a0 a1 line : ℤ) → int_eq a0 line ≡ true → int_eq a1 line ≡ int_eq a0 a1
ends_together a0 a1 line t = ap (int_eq a1) (sym ((Decides-int_eq a0 line).0 t)) ∙ int_eq_equiv.symm a1 a0

-- the tests of an end, of the other end, and of the place, where ends on one line are tested by each other and ends round a
-- place differ
regrouped : (first second within together same : Bool) → (first ≡ true → second ≡ together) → (within ≡ true → same ≡ false)
    → (first && (second && within)) ≡ ((together && not same) && (first && within))
regrouped false second within false same h k = refl
regrouped false second within true true h k = refl
regrouped false second within true false h k = refl
regrouped true second within together same h k = ap (λ s. s && within) (h refl) ∙ rest together within same k
  where
    rest : (together within same : Bool) → (within ≡ true → same ≡ false) → (together && within) ≡ ((together && not same) && within)
    rest false within same k = refl
    rest true false true k = refl
    rest true false false k = refl
    rest true true true k = absurd (both_ways true (k refl) refl)
    rest true true false k = refl

-- Both ends of a line lie on the place's line j and the place z between them, on the sheet, where the corner stands at
-- `across` and `along`: then, and only then, the line runs that way, has length, and its stroke covers the place.
place_tests : (a0 a1 b0 b1 j z across along : ℤ)
    → (int_eq a0 (j +ℤ across) && (int_eq a1 (j +ℤ across) && is_between b0 b1 (z +ℤ along)))
    ≡ ((int_eq a0 a1 && not (int_eq b0 b1)) && (int_eq (a0 -ℤ across) j && (int_le (int_min b0 b1 -ℤ along) z && int_lt z (int_max b0 b1 -ℤ along))))
place_tests a0 a1 b0 b1 j z across along =
    let within = int_le (int_min b0 b1) (z +ℤ along) && int_lt (z +ℤ along) (int_max b0 b1) in
    ap (λ t. int_eq a0 (j +ℤ across) && (int_eq a1 (j +ℤ across) && t)) (between_is b0 b1 (z +ℤ along))
    ∙ regrouped (int_eq a0 (j +ℤ across)) (int_eq a1 (j +ℤ across)) within (int_eq a0 a1) (int_eq b0 b1)
    (ends_together a0 a1 (j +ℤ across)) (between_differ b0 b1 (z +ℤ along))
    ∙ ap₂ (λ on t. (int_eq a0 a1 && not (int_eq b0 b1)) && (on && t)) (sym (eq-shifted a0 j across))
    (ap₂ ◌&&◌ (sym (le-shifted (int_min b0 b1) z along)) (sym (lt-shifted z (int_max b0 b1) along)))

-- ---- a line and a segment

-- the test for one view, turned round
same_view-turned : (v w : View) → same_view v w ≡ same_view w v
same_view-turned Front Front = refl
same_view-turned Front Top = refl
same_view-turned Front Side = refl
same_view-turned Top Front = refl
same_view-turned Top Top = refl
same_view-turned Top Side = refl
same_view-turned Side Front = refl
same_view-turned Side Top = refl
same_view-turned Side Side = refl

-- level or upright
kind_tests : (upright : Bool) (x0 y0 x1 y1 right up left bottom : ℤ)
    → (int_eq (across_of upright x0 y0) (if upright then (right +ℤ left) else (up +ℤ bottom))
    && (int_eq (across_of upright x1 y1) (if upright then (right +ℤ left) else (up +ℤ bottom))
    && is_between (along_of upright x0 y0) (along_of upright x1 y1) (if upright then (up +ℤ bottom) else (right +ℤ left))))
    ≡ ((int_eq (across_of upright x0 y0) (across_of upright x1 y1) && not (int_eq (along_of upright x0 y0) (along_of upright x1 y1)))
    && (int_eq (across_of upright x0 y0 -ℤ across_of upright left bottom) (if upright then right else up)
    && (int_le (int_min (along_of upright x0 y0) (along_of upright x1 y1) -ℤ along_of upright left bottom) (if upright then up else right)
    && int_lt (if upright then up else right) (int_max (along_of upright x0 y0) (along_of upright x1 y1) -ℤ along_of upright left bottom))))
kind_tests true x0 y0 x1 y1 right up left bottom = place_tests x0 x1 y0 y1 right up left bottom
kind_tests false x0 y0 x1 y1 right up left bottom = place_tests y0 y1 x0 x1 up right bottom left

-- a line covers a segment of the sheet where it is the view's, runs as the segment does, has length, and its stroke covers
-- the segment in the view
pub covers_is : (corner : Corner) (l : Line) (g : Segment)
    → covers l (from_corner corner g) ≡ (covers_along g.view g.upright l && stroke_covers (line_of g) (start_of g) (stroke_of corner g.upright l))
covers_is corner l g =
    ap₂ ◌&&◌ (same_view-turned l.of g.view) (kind_tests g.upright l.x0 l.y0 l.x1 l.y1 g.right g.up corner.right corner.up)
    ∙ sym (and_assoc (same_view g.view l.of) _ _)

-- ---- from line to line

-- strokes draw the segment in a style, or one of these lines covers it in that style
abbrev pub is_met : Style → Corner → Segment → List Stroke → List Line → Bool
is_met style corner g ss ls = list_any (is_drawn style (line_of g) (start_of g)) ss || is_covered style ls (from_corner corner g)

-- a line that runs as the segment does becomes a stroke
pub line_taken : (style : Style) (corner : Corner) (g : Segment) (ss : List Stroke) (l : Line) (ls : List Line) → covers_along g.view g.upright l ≡ true
    → is_met style corner g (ss ++ stroke_of corner g.upright l ∷ []) ls ≡ is_met style corner g ss (l ∷ ls)
line_taken style corner g ss l ls runs =
    let p = is_drawn style (line_of g) (start_of g) in
    let rest = is_covered style ls (from_corner corner g) in
    let own : covers l (from_corner corner g) ≡ stroke_covers (line_of g) (start_of g) (stroke_of corner g.upright l) =
    covers_is corner l g ∙ ap (λ t. t && stroke_covers (line_of g) (start_of g) (stroke_of corner g.upright l)) runs in
    ap (λ t. t || rest) (list_any-append p ss (stroke_of corner g.upright l ∷ []))
    ∙ or_grouped (list_any p ss) (p (stroke_of corner g.upright l)) rest
    ∙ ap (λ t. list_any p ss || ((same_style style l.style && t) || rest)) (sym own)
  where
    or_grouped : (a b c : Bool) → ((a || (b || false)) || c) ≡ (a || (b || c))
    or_grouped true b c = refl
    or_grouped false true c = refl
    or_grouped false false c = refl

-- any other line covers it no more than the rest does
pub line_passed : (style : Style) (corner : Corner) (g : Segment) (ss : List Stroke) (l : Line) (ls : List Line) → covers_along g.view g.upright l ≡ false
    → is_met style corner g ss ls ≡ is_met style corner g ss (l ∷ ls)
line_passed style corner g ss l ls runs =
    let none : covers l (from_corner corner g) ≡ false =
    covers_is corner l g ∙ ap (λ t. t && stroke_covers (line_of g) (start_of g) (stroke_of corner g.upright l)) runs in
    ap (λ t. list_any (is_drawn style (line_of g) (start_of g)) ss || t) (sym (ap (λ t. (same_style style l.style && t) || is_covered style ls (from_corner corner g)) none ∙ alone (same_style style l.style) _))
  where
    alone : (a b : Bool) → ((a && false) || b) ≡ b
    alone true b = refl
    alone false b = refl

-- the next line of those left
pub next_met : (style : Style) (corner : Corner) (g : Segment) (ss : List Stroke) (lines : List Line) (i : ℕ) (l : Line) → i < length lines → l ≡ get_or lines i l
    → is_met style corner g ss (l ∷ drop (i + 1) lines) ≡ is_met style corner g ss (drop i lines)
next_met style corner g ss lines i l within e =
    ap (λ m. is_met style corner g ss (m ∷ drop (i + 1) lines)) e ∙ sym (at_drop_more (is_met style corner g ss) lines i l within)
