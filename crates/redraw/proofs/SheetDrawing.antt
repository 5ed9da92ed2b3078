-- The drawing of a written sheet is the drawing that its runs are of, moved to least coordinates 0.
use Rattle.std.proofs.Common.{◌≡◌, ◌≢◌, Bool, true, false, ◌&&◌, List, map, ℤ, ◌+ℤ◌, ◌≤ℤ◌, ◌<ℤ◌, refl, ap, sym, subst, ◌∙◌, arith}
use Rattle.std.specs.Int.{int_min}
use Rattle.std.proofs.lemmas.Bool.{and_parts}
use Rattle.std.proofs.lemmas.Int.{ints, clamps}
use Rattle.solid_model.specs.declared.frame.View.{View}
use Rattle.solid_model.specs.declared.runs.Run.{Run}
use Rattle.solid_model.specs.declared.segment.Segment.{Segment}
use Rattle.solid_model.specs.declared.segment.Style.{Style}
use Rattle.solid_model.specs.declared.segment.Style.TheVariants.{Blank}
use Rattle.solid_model.specs.Drawings.{same_view, has_length, covering_lines, extreme, least_right, least_up, is_shown, sheet_style, drawing_of, IsShown}
use Rattle.solid_model.specs.Line.{Line}
use Rattle.lemmas.specs.Lists.{Member}
use Rattle.solid_model.specs.Moved.{BeginsAt, IsMovedToZero}
use Rattle.solid_model.specs.Runs.{DrawingRuns, runs_along}
use Rattle.solid_model.specs.PerView.{of_view}
use Rattle.solid_model.specs.Segments.{segment_at, along_of, across_of, farther}
use Rattle.lemmas.proofs.Lists.{each-at, member-map, member-from_map, member-from_filter}
use Rattle.solid_model.proofs.RunStyles.{covers_from, in_runs}
use Rattle.solid_model.proofs.Sheets.{least_member_of, same_view-true, drawn_line, covered_from_style, sheet_stands_from}
use Rattle.redraw.specs.Files.{AreRunsOf, right_on_sheet, up_on_sheet, sheet_lines}
use Rattle.redraw.proofs.SheetLines.{run_of_line, style_of_run, sheet_shows}

-- the ends of a line that begins at a place or beyond, moved from it
ends_from : (upright : Bool) (at from to right up far high x y : ℤ) → from <ℤ to → right ≡ far → up ≡ high
    → x ≤ℤ across_of upright at from → y ≤ℤ along_of upright at from
    → ((x +ℤ far) ≤ℤ int_min (across_of upright at from +ℤ right) (across_of upright at to +ℤ right))
    × ((y +ℤ high) ≤ℤ int_min (along_of upright at from +ℤ up) (along_of upright at to +ℤ up))
ends_from true at from to right up far high x y long e f h k = (omega (arith, ints, clamps), omega (arith, ints, clamps))
ends_from false at from to right up far high x y long e f h k = (omega (arith, ints, clamps), omega (arith, ints, clamps))

module _ (far_x far_z : ℤ) (d : DrawingRuns) (drawing : Segment → Style) (are : AreRunsOf drawing d) where
  abbrev lines : List Line
  lines = sheet_lines far_x far_z d

  -- the segment's place on the sheet
  abbrev on_sheet : Segment → Segment
  on_sheet g = farther (right_on_sheet far_x g.view) (up_on_sheet far_z g.view) g

  -- there it has the style of the drawing
  pub shows_drawing : (g : Segment) → sheet_style lines (on_sheet g) ≡ drawing g
  shows_drawing g = sheet_shows far_x far_z d are.runs g ∙ are.show g

  -- where something is drawn the sheet shows it
  pub shown_on_sheet : (g : Segment) → drawing g ≢ Blank → is_shown lines (on_sheet g) ≡ true
  shown_on_sheet g drawn = covered_from_style _ _ (λ blank. drawn (sym (shows_drawing g) ∙ blank))

  -- a run begins at a segment that is drawn
  pub run_drawn : (v : View) (upright : Bool) (r : Run) → Member (runs_along upright (of_view v d)) r → drawing (segment_at v upright r.from r.at) ≡ r.style
  run_drawn v upright r k =
      let is_run = each-at _ _ r (are.runs v upright).0 k in
      sym (are.show (segment_at v upright r.from r.at)) ∙ in_runs d v upright r.from r.at
      ∙ sym (style_of_run (runs_along upright (of_view v d)) (are.runs v upright) r k r.at r.from refl
      (covers_from r r.from (omega (arith, ints)) is_run.0))

  module _ (v : View) (right up : ℤ) (begins : BeginsAt drawing v right up) where
    -- no line of the view begins to the left of where the view begins on the sheet, or below it
    line_from : (l : Line) → Member lines l → v ≡ l.of
        → ((right +ℤ right_on_sheet far_x v) ≤ℤ int_min l.x0 l.x1) × ((up +ℤ up_on_sheet far_z v) ≤ℤ int_min l.y0 l.y1)
    line_from l k of =
        let of_run = run_of_line far_x far_z d l k in
        let w = of_run.0 in let upright = of_run.1 in let m = of_run.2 in
        let r : Run = m.run in
        let is_run = each-at _ _ r (are.runs w upright).0 m.listed in
        let same : w ≡ v = ap (λ (n : Line). n.of) m.is ∙ sym of in
        let first = begins.stands_from (segment_at w upright r.from r.at) same (λ blank. is_run.1 (sym (run_drawn w upright r m.listed) ∙ blank)) in
        subst (λ (n : Line). ((right +ℤ right_on_sheet far_x v) ≤ℤ int_min n.x0 n.x1) × ((up +ℤ up_on_sheet far_z v) ≤ℤ int_min n.y0 n.y1)) m.is
        (ends_from upright r.at r.from r.to (right_on_sheet far_x w) (up_on_sheet far_z w) (right_on_sheet far_x v) (up_on_sheet far_z v) right up is_run.0
        (ap (right_on_sheet far_x) same) (ap (up_on_sheet far_z) same) first.0 first.1)

    -- so the least of its lines' coordinates is no less
    least_from : (of_line : Line → ℤ) (bound : ℤ) → ((l : Line) → Member lines l → v ≡ l.of → bound ≤ℤ of_line l)
        → (l : Line) → Member (covering_lines v lines) l → bound ≤ℤ extreme int_min (map of_line (covering_lines v lines))
    least_from of_line bound from l k =
        let least = least_member_of (map of_line (covering_lines v lines)) (of_line l) (member-map of_line (covering_lines v lines) l k) in
        let m = member-from_map of_line (covering_lines v lines) _ least in
        let own = member-from_filter (λ (n : Line). same_view v n.of && has_length n) lines m.0 m.1 in
        subst (λ z. bound ≤ℤ z) m.2 (from m.0 own.0 (same_view-true v m.0.of (and_parts (same_view v m.0.of) (has_length m.0) own.1).0))

    -- what is drawn in the view stands nowhere to the left of its lines' least right coordinate, or below their least up coordinate
    drawn_from : (g : Segment) → g.view ≡ v → drawing g ≢ Blank
        → (least_right v lines ≤ℤ (g.right +ℤ right_on_sheet far_x v)) × (least_up v lines ≤ℤ (g.up +ℤ up_on_sheet far_z v))
    drawn_from g of drawn =
        subst (λ w. (least_right v lines ≤ℤ (g.right +ℤ right_on_sheet far_x w)) × (least_up v lines ≤ℤ (g.up +ℤ up_on_sheet far_z w))) of
        (sheet_stands_from lines v (on_sheet g) of (λ blank. drawn (sym (shows_drawing g) ∙ blank)))

    some_line : (l : Line) × Member (covering_lines v lines) l
    some_line =
        let h = begins.at_left in
        let m = drawn_line lines (on_sheet h.0) (shown_on_sheet h.0 h.2) in
        (m.0, subst (λ w. Member (covering_lines w lines) m.0) h.1 m.1)

    -- the least coordinates on the sheet are those at which the view begins, moved to its place
    least_right_is : least_right v lines ≡ right +ℤ right_on_sheet far_x v
    least_right_is =
        let h = begins.at_left in
        let at_most = (drawn_from h.0 h.1 h.2).0 in
        let at_least = least_from (λ l. int_min l.x0 l.x1) (right +ℤ right_on_sheet far_x v) (λ l k of. (line_from l k of).0) some_line.0 some_line.1 in
        omega (arith, ints, at_most, at_least, h.3)

    least_up_is : least_up v lines ≡ up +ℤ up_on_sheet far_z v
    least_up_is =
        let h = begins.at_bottom in
        let at_most = (drawn_from h.0 h.1 h.2).1 in
        let at_least = least_from (λ l. int_min l.y0 l.y1) (up +ℤ up_on_sheet far_z v) (λ l k of. (line_from l k of).1) some_line.0 some_line.1 in
        omega (arith, ints, at_most, at_least, h.3)

    -- moved from there, the sheet shows the drawing, moved from where it begins
    moved_from : (g : Segment) → g.view ≡ v → drawing_of lines g ≡ drawing (farther right up g)
    moved_from g of =
        let across : g.right +ℤ least_right g.view lines ≡ (g.right +ℤ right) +ℤ right_on_sheet far_x g.view =
        subst (λ w. g.right +ℤ least_right w lines ≡ (g.right +ℤ right) +ℤ right_on_sheet far_x w) (sym of) (omega (arith, ints, least_right_is)) in
        let upwards : g.up +ℤ least_up g.view lines ≡ (g.up +ℤ up) +ℤ up_on_sheet far_z g.view =
        subst (λ w. g.up +ℤ least_up w lines ≡ (g.up +ℤ up) +ℤ up_on_sheet far_z w) (sym of) (omega (arith, ints, least_up_is)) in
        (λ t. sheet_style lines (record g { right = across t; up = upwards t })) ∙ shows_drawing (farther right up g)

    pub sheet_moved : IsMovedToZero drawing (drawing_of lines) v
    sheet_moved = (right, up, begins, moved_from)

  -- where each view of the drawing begins somewhere, the sheet shows something in each
  pub sheet_shown : ((v : View) → (right up : ℤ) × BeginsAt drawing v right up) → IsShown false lines
  sheet_shown begins v empty =
      let h = (begins v).2.at_left in
      empty (on_sheet h.0) h.1 (shown_on_sheet h.0 h.2)
