-- The drawing of lines that are kept is a drawing.
use Rattle.std.proofs.Common.{◌≡◌, ◌≢◌, ◌⊎◌, ⊎_elim, inl, inr, Bool, true, false, ◌&&◌, if◌then◌else◌, List, [], ◌∷◌, map, ℤ, pos, neg_ℤ, ◌+ℤ◌, ◌≤ℤ◌, refl, sym, subst, ◌∙◌, arith}
use Rattle.std.specs.Int.{int_min}
use Rattle.std.proofs.lemmas.Int.{ints, clamps}
use Rattle.solid_model.specs.declared.frame.View.{View}
use Rattle.solid_model.specs.declared.segment.Segment.{Segment}
use Rattle.solid_model.specs.declared.segment.Style.TheVariants.{Blank}
use Rattle.solid_model.specs.Segments.{far_right, far_up, farther}
use Rattle.solid_model.specs.Drawings.{same_view, has_length, covering_lines, extreme, least_right, least_up, sheet_style, drawing_of, IsEmptyView, IsShown}
use Rattle.solid_model.specs.Line.{Line, IsNear, IsKept}
use Rattle.lemmas.specs.Lists.{Member, Each}
use Rattle.solid_model.specs.Moved.{BeginsAt, Shows, SeesEachAxis}
use Rattle.solid_model.specs.declared.cell.Axis.{Axis}
use Rattle.solid_model.specs.declared.cell.Axis.TheVariants.{X, Y, Z}
use Rattle.solid_model.specs.declared.frame.View.TheVariants.{Front, Top, Side}
use Rattle.solid_model.specs.Frames.{frame_of, along}
use Rattle.solid_model.specs.Runs.{IsDrawing}
use Rattle.solid_model.specs.Limits.{farthest_in_view}
use Rattle.lemmas.proofs.Lists.{each-at, member-map, member-from_map, member-from_filter}
use Rattle.solid_model.proofs.InGrid.{blank_or_drawn}
use Rattle.solid_model.proofs.Moved.{moved_begins}
use Rattle.solid_model.proofs.Sheets.{least_member_of, drawn_line, covered_from_style, lines_moved, without_lines-empty}

-- ---- nothing lies too far out

-- where each line begins no farther down than -1,000,000,000, so do all
least_near : (of_line : Line → ℤ) → ((l : Line) → IsKept l → neg_ℤ (pos 1000000000) ≤ℤ of_line l) → (ls : List Line) → Each IsKept ls → (v : View) (l : Line)
    → Member (covering_lines v ls) l → neg_ℤ (pos 1000000000) ≤ℤ extreme int_min (map of_line (covering_lines v ls))
least_near of_line near ls kept v l k =
    let least = least_member_of (map of_line (covering_lines v ls)) (of_line l) (member-map of_line (covering_lines v ls) l k) in
    let m = member-from_map of_line (covering_lines v ls) (extreme int_min (map of_line (covering_lines v ls))) least in
    let own = member-from_filter (λ (n : Line). same_view v n.of && has_length n) ls m.0 m.1 in
    subst (λ z. neg_ℤ (pos 1000000000) ≤ℤ z) m.2 (near m.0 (each-at IsKept ls m.0 kept own.0))

-- a far end on the sheet is at most 2,000,000,000 from the corner
far_from_corner : (upright : Bool) (right up left bottom : ℤ)
    → (if upright then (right +ℤ left) else ((right +ℤ left) +ℤ pos 1)) ≤ℤ pos 1000000000
    → (if upright then ((up +ℤ bottom) +ℤ pos 1) else (up +ℤ bottom)) ≤ℤ pos 1000000000
    → neg_ℤ (pos 1000000000) ≤ℤ left → neg_ℤ (pos 1000000000) ≤ℤ bottom
    → ((if upright then right else (right +ℤ pos 1)) ≤ℤ farthest_in_view) × ((if upright then (up +ℤ pos 1) else up) ≤ℤ farthest_in_view)
far_from_corner true right up left bottom h k m n = (omega (arith, ints), omega (arith, ints))
far_from_corner false right up left bottom h k m n = (omega (arith, ints), omega (arith, ints))

-- the lesser of two near numbers is near
lesser_near : (a b : ℤ) → IsNear a → IsNear b → neg_ℤ (pos 1000000000) ≤ℤ int_min a b
lesser_near a b near_a near_b = omega (arith, ints, clamps, near_a.0, near_b.0)

-- nothing of a file's drawing lies farther out than 2,000,000,000
drawing_near : (ls : List Line) → Each IsKept ls → (g : Segment) → drawing_of ls g ≢ Blank → (far_right g ≤ℤ farthest_in_view) × (far_up g ≤ℤ farthest_in_view)
drawing_near ls kept g drawn =
    let s : Segment = farther (least_right g.view ls) (least_up g.view ls) g in
    let m = drawn_line ls s (covered_from_style _ _ drawn) in
    let own = each-at IsKept ls m.0 kept (member-from_filter (λ (n : Line). same_view g.view n.of && has_length n) ls m.0 m.1).0 in
    let right : far_right s ≤ℤ pos 1000000000 = omega (arith, ints, clamps, m.2.right, own.near_x0.1, own.near_x1.1) in
    let top : far_up s ≤ℤ pos 1000000000 = omega (arith, ints, clamps, m.2.top, own.near_y0.1, own.near_y1.1) in
    far_from_corner g.upright g.right g.up (least_right g.view ls) (least_up g.view ls) right top
    (least_near (λ l. int_min l.x0 l.x1) (λ l keeps. lesser_near l.x0 l.x1 keeps.near_x0 keeps.near_x1) ls kept g.view m.0 m.1)
    (least_near (λ l. int_min l.y0 l.y1) (λ l keeps. lesser_near l.y0 l.y1 keeps.near_y0 keeps.near_y1) ls kept g.view m.0 m.1)

-- ---- a drawing

-- an empty view shows nothing
pub empty_is_blank : (ls : List Line) (g : Segment) → IsEmptyView ls g.view → drawing_of ls g ≡ Blank
empty_is_blank ls g empty = ⊎_elim (λ (blank : drawing_of ls g ≡ Blank). blank)
    (λ (drawn : drawing_of ls g ≢ Blank). absurd (empty (farther (least_right g.view ls) (least_up g.view ls) g) refl (covered_from_style _ _ drawn)))
    (blank_or_drawn (drawing_of ls g))

-- Lines have the drawing of three views where no view is empty, or where one may be and no two are: of the two views that see an
-- axis one shows something.
pub lines_are_drawing : (two : Bool) (ls : List Line) → Each IsKept ls → IsShown two ls → IsDrawing (drawing_of ls)
lines_are_drawing two ls kept shown = record {
  begins = λ v shows. begins v (λ none. shows.2 (empty_is_blank ls shows.0 (subst (IsEmptyView ls) (sym shows.1) (without_lines-empty ls v none))));
  sees = sees;
  near = drawing_near ls kept;
}
  where
    begins : (v : View) → covering_lines v ls ≢ [] → BeginsAt (drawing_of ls) v (pos 0) (pos 0)
    begins v some = moved_begins (sheet_style ls) (drawing_of ls) v (lines_moved ls kept v some)

    shows : (v : View) → covering_lines v ls ≢ [] → Shows (drawing_of ls) v
    shows v some = let at = (begins v some).at_left in (at.0, at.1, at.2)

    not_both : (t : Bool) → IsShown t ls → (v w : View) → v ≢ w → IsEmptyView ls v → IsEmptyView ls w → ⊥
    not_both false each v w differ first second = each v first
    not_both true one v w differ first second = one v w differ first second

    -- one of two views shows something
    either : (v w : View) → v ≢ w → Shows (drawing_of ls) v ⊎ Shows (drawing_of ls) w
    either v w differ = by (covering_lines v ls) refl
      where
        by : (ms : List Line) → covering_lines v ls ≡ ms → Shows (drawing_of ls) v ⊎ Shows (drawing_of ls) w
        by [] e = inr (shows w (λ none. not_both two shown v w differ (without_lines-empty ls v e) (without_lines-empty ls w none)))
        by (l ∷ ms) e = inl (shows v (λ none. let p = sym none ∙ e in cc))

    sees_by : (a : Axis) (v w : View) (upright other : Bool) → (along (frame_of v) upright).axis ≡ a → (along (frame_of w) other).axis ≡ a
        → Shows (drawing_of ls) v ⊎ Shows (drawing_of ls) w → (u : View) × (o : Bool) × ((along (frame_of u) o).axis ≡ a) × Shows (drawing_of ls) u
    sees_by a v w upright other first second (inl shown_first) = (v, upright, first, shown_first)
    sees_by a v w upright other first second (inr shown_second) = (w, other, second, shown_second)

    sees : SeesEachAxis (drawing_of ls)
    sees X = sees_by X Front Top false false refl refl (either Front Top (λ p. cc))
    sees Y = sees_by Y Top Side true false refl refl (either Top Side (λ p. cc))
    sees Z = sees_by Z Front Side true true refl refl (either Front Side (λ p. cc))
