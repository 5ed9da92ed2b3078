-- Which lines stand on a written sheet, and what they show there: what the runs of its views show.
use Rattle.std.proofs.Common.{◌≡◌, ◌≢◌, inl, inr, ⊎_elim, Bool, true, false, ◌&&◌, List, [], ◌∷◌, map, ℤ, ◌+ℤ◌, ◌≤ℤ◌, ◌<ℤ◌, int_lt, int_le, int_eq, if◌then◌else◌, IsTrue, refl, ap, sym, ◌∙◌, arith}
use Rattle.std.proofs.lemmas.Bool.{false≢true, and_parts, and_from, or_cases, or_left, or_right}
use Rattle.std.proofs.lemmas.Bool.Decides.{Decides-int_eq}
use Rattle.std.proofs.lemmas.Int.{ints}
use Rattle.solid_model.specs.declared.frame.View.{View}
use Rattle.solid_model.specs.declared.frame.View.TheVariants.{Front, Top, Side}
use Rattle.solid_model.specs.declared.runs.Run.{Run}
use Rattle.solid_model.specs.declared.segment.Segment.{Segment}
use Rattle.solid_model.specs.declared.segment.Style.{Style}
use Rattle.solid_model.specs.declared.segment.Style.TheVariants.{Blank, Dashed, Solid}
use Rattle.solid_model.specs.Drawings.{same_view, same_style, is_between, covers, is_covered, sheet_style}
use Rattle.solid_model.specs.Line.{Line}
use Rattle.lemmas.specs.Lists.{Member}
use Rattle.solid_model.specs.Runs.{run_covers, run_style, AreRuns, DrawingRuns, runs_along, style_in}
use Rattle.solid_model.specs.PerView.{of_view}
use Rattle.solid_model.specs.Segments.{along_of, across_of, start_of, line_of, farther}
use Rattle.lemmas.proofs.Lists.{each-at, member-append, member-append_left, member-append_right, member-map, member-from_map}
use Rattle.solid_model.proofs.RunStyles.{covers_parts, covers_from, covering_run, run_stretch}
use Rattle.solid_model.proofs.Sheets.{same_view-true, same_view-itself, same_style-itself, same_style-one}
use Rattle.redraw.specs.Files.{right_on_sheet, up_on_sheet, run_line, placed_lines, sheet_lines}

-- ---- what a run covers

-- what a run covers has its style
pub style_of_run : (rs : List Run) → AreRuns rs → (r : Run) → Member rs r → (j z : ℤ) → r.at ≡ j → run_covers r.at z r ≡ true → r.style ≡ run_style rs j z
style_of_run rs are r k j z on e =
    let at = covers_parts r.at z r e in
    same_style-one r.style _ ((run_stretch rs are r k).inside z at.1 at.2) ∙ ap (λ i. run_style rs i z) on

-- ---- what a run's line covers

-- what lies between two ends in order
between_parts : (from to z : ℤ) → from <ℤ to → is_between from to z ≡ true → (from ≤ℤ z) × (z <ℤ to)
between_parts from to z long e = ⊎_elim {C = (from ≤ℤ z) × (z <ℤ to)}
    (λ h. let p = and_parts (int_le from z) (int_lt z to) h in (omega (arith, ints, p.0), omega (arith, ints, p.1)))
    (λ h. let p = and_parts (int_le to z) (int_lt z from) h in absurd (omega (arith, ints, p.0, p.1)))
    (or_cases (int_le from z && int_lt z to) (int_le to z && int_lt z from) e)

-- The line of a run covers what the run covers, moved alike, and nothing of the other kind, since it has length.
covered_kind : (upright kind : Bool) (at from to right up far high x y : ℤ) → from <ℤ to → right ≡ far → up ≡ high
    → int_eq (across_of kind (across_of upright at from +ℤ right) (along_of upright at from +ℤ up)) (across_of kind (x +ℤ far) (y +ℤ high)) ≡ true
    → int_eq (across_of kind (across_of upright at to +ℤ right) (along_of upright at to +ℤ up)) (across_of kind (x +ℤ far) (y +ℤ high)) ≡ true
    → is_between (along_of kind (across_of upright at from +ℤ right) (along_of upright at from +ℤ up))
    (along_of kind (across_of upright at to +ℤ right) (along_of upright at to +ℤ up)) (along_of kind (x +ℤ far) (y +ℤ high)) ≡ true
    → (upright ≡ kind) × (at ≡ across_of kind x y) × (from ≤ℤ along_of kind x y) × (along_of kind x y <ℤ to)
covered_kind true true at from to right up far high x y long e f p q r =
    let same = (Decides-int_eq (at +ℤ right) (x +ℤ far)).0 p in
    let h = between_parts (from +ℤ up) (to +ℤ up) (y +ℤ high) (omega (arith, ints)) r in
    (refl, omega (arith, ints, same), omega (arith, ints, h.0), omega (arith, ints, h.1))
covered_kind false false at from to right up far high x y long e f p q r =
    let same = (Decides-int_eq (at +ℤ up) (y +ℤ high)).0 p in
    let h = between_parts (from +ℤ right) (to +ℤ right) (x +ℤ far) (omega (arith, ints)) r in
    (refl, omega (arith, ints, same), omega (arith, ints, h.0), omega (arith, ints, h.1))
covered_kind true false at from to right up far high x y long e f p q r =
    let same = (Decides-int_eq (from +ℤ up) (y +ℤ high)).0 p in
    let too = (Decides-int_eq (to +ℤ up) (y +ℤ high)).0 q in
    absurd (omega (arith, ints, same, too))
covered_kind false true at from to right up far high x y long e f p q r =
    let same = (Decides-int_eq (from +ℤ right) (x +ℤ far)).0 p in
    let too = (Decides-int_eq (to +ℤ right) (x +ℤ far)).0 q in
    absurd (omega (arith, ints, same, too))

-- the test of a stretch passes
within_stretch : (a b from to z : ℤ) → a ≡ b → from ≤ℤ z → z <ℤ to → (int_eq a b && (int_eq a b && is_between from to z)) ≡ true
within_stretch a b from to z same begins ends =
    let on = (Decides-int_eq a b).1 same in
    and_from (int_eq a b) _ on (and_from (int_eq a b) (is_between from to z) on
    (or_left (int_le from z && int_lt z to) (int_le to z && int_lt z from)
    (and_from (int_le from z) (int_lt z to) (grind (arith, ints)) (grind (arith, ints)))))

-- and it covers all of that
kind_covered : (kind : Bool) (at from to right up x y : ℤ) → at ≡ across_of kind x y → from ≤ℤ along_of kind x y → along_of kind x y <ℤ to
    → (int_eq (across_of kind (across_of kind at from +ℤ right) (along_of kind at from +ℤ up)) (across_of kind (x +ℤ right) (y +ℤ up))
    && (int_eq (across_of kind (across_of kind at to +ℤ right) (along_of kind at to +ℤ up)) (across_of kind (x +ℤ right) (y +ℤ up))
    && is_between (along_of kind (across_of kind at from +ℤ right) (along_of kind at from +ℤ up))
    (along_of kind (across_of kind at to +ℤ right) (along_of kind at to +ℤ up)) (along_of kind (x +ℤ right) (y +ℤ up)))) ≡ true
kind_covered true at from to right up x y on begins ends =
    within_stretch (at +ℤ right) (x +ℤ right) (from +ℤ up) (to +ℤ up) (y +ℤ up) (omega (arith, ints)) (omega (arith, ints)) (omega (arith, ints))
kind_covered false at from to right up x y on begins ends =
    within_stretch (at +ℤ up) (y +ℤ up) (from +ℤ right) (to +ℤ right) (x +ℤ right) (omega (arith, ints)) (omega (arith, ints)) (omega (arith, ints))

-- the run of a view and kind shows the segment
record RunShows (v : View) (upright : Bool) (r : Run) (g : Segment) : Type 0 where
  of_view : v ≡ g.view
  of_kind : upright ≡ g.upright
  on : r.at ≡ line_of g
  covers_it : IsTrue (run_covers r.at (start_of g) r)

-- a run whose line covers a segment, both moved to their views' places, shows the segment
covering_shows : (right up : View → ℤ) (v : View) (upright : Bool) (r : Run) (g : Segment) → r.from <ℤ r.to
    → covers (run_line v upright (right v) (up v) r) (farther (right g.view) (up g.view) g) ≡ true → RunShows v upright r g
covering_shows right up v upright r g long e =
    let l : Line = run_line v upright (right v) (up v) r in
    let h : Segment = farther (right g.view) (up g.view) g in
    let a = and_parts (same_view v g.view) _ e in
    let b = and_parts (int_eq (across_of g.upright l.x0 l.y0) (line_of h)) _ a.1 in
    let c = and_parts (int_eq (across_of g.upright l.x1 l.y1) (line_of h)) _ b.1 in
    let of_view = same_view-true v g.view a.0 in
    let at = covered_kind upright g.upright r.at r.from r.to (right v) (up v) (right g.view) (up g.view) g.right g.up long
    (ap right of_view) (ap up of_view) b.0 c.0 c.1 in
    record { of_view = of_view; of_kind = at.0; on = at.1; covers_it = covers_from r (start_of g) at.2 at.3 }

-- the line of a run covers what the run covers, moved alike
shows_covering : (right up : ℤ) (r : Run) (g : Segment) → run_covers (line_of g) (start_of g) r ≡ true
    → covers (run_line g.view g.upright right up r) (farther right up g) ≡ true
shows_covering right up r g e =
    let at = covers_parts (line_of g) (start_of g) r e in
    and_from (same_view g.view g.view) _ (same_view-itself g.view) (kind_covered g.upright r.at r.from r.to right up g.right g.up at.0 at.1 at.2)

-- ---- lines that cover

-- a line of the style covers it
covering_line : (style : Style) (ls : List Line) (g : Segment) → is_covered style ls g ≡ true
    → (l : Line) × Member ls l × (style ≡ l.style) × (covers l g ≡ true)
covering_line style [] g e = absurd (false≢true e)
covering_line style (l ∷ ls) g e = ⊎_elim {C = (m : Line) × Member (l ∷ ls) m × (style ≡ m.style) × (covers m g ≡ true)}
    (λ h. let p = and_parts (same_style style l.style) (covers l g) h in (l, inl refl, same_style-one style l.style p.0, p.1))
    (λ h. let rest = covering_line style ls g h in (rest.0, inr rest.1, rest.2, rest.3))
    (or_cases (same_style style l.style && covers l g) (is_covered style ls g) e)

covered_by : (ls : List Line) (l : Line) (g : Segment) → Member ls l → covers l g ≡ true → is_covered l.style ls g ≡ true
covered_by [] l g k e = absurd k
covered_by (m ∷ ls) l g (inl same) e =
    or_left (same_style l.style m.style && covers m g) (is_covered l.style ls g)
    (and_from (same_style l.style m.style) (covers m g)
    (ap (λ (n : Line). same_style l.style n.style) same ∙ same_style-itself l.style) (ap (λ n. covers n g) same ∙ e))
covered_by (m ∷ ls) l g (inr k) e =
    or_right (same_style l.style m.style && covers m g) (is_covered l.style ls g) (covered_by ls l g k e)

-- ---- the lines of a sheet

-- the line is that of a run of the view and kind
pub record IsRunLine (far_x far_z : ℤ) (d : DrawingRuns) (v : View) (upright : Bool) (l : Line) : Type 0 where
  pub run : Run
  pub listed : Member (runs_along upright (of_view v d)) run
  pub is : run_line v upright (right_on_sheet far_x v) (up_on_sheet far_z v) run ≡ l

module _ (far_x far_z : ℤ) (d : DrawingRuns) where
  abbrev lines : List Line
  lines = sheet_lines far_x far_z d

  abbrev SomeRunLine : Line → Type 0
  SomeRunLine l = (v : View) × (upright : Bool) × IsRunLine far_x far_z d v upright l

  line_of_run : (v : View) (upright : Bool) (l : Line)
      → Member (map (run_line v upright (right_on_sheet far_x v) (up_on_sheet far_z v)) (runs_along upright (of_view v d))) l → SomeRunLine l
  line_of_run v upright l k =
      let m = member-from_map (run_line v upright (right_on_sheet far_x v) (up_on_sheet far_z v)) (runs_along upright (of_view v d)) l k in
      (v, upright, record { run = m.0; listed = m.1; is = m.2 })

  placed_line : (v : View) (l : Line) → Member (placed_lines far_x far_z d v) l → SomeRunLine l
  placed_line v l k = ⊎_elim {C = SomeRunLine l} (line_of_run v false l) (line_of_run v true l) (member-append _ _ l k)

  -- each line of the sheet is that of a run
  pub run_of_line : (l : Line) → Member lines l → SomeRunLine l
  run_of_line l k = ⊎_elim {C = SomeRunLine l} (placed_line Front l)
      (λ m. ⊎_elim {C = SomeRunLine l} (placed_line Top l) (placed_line Side l) (member-append _ _ l m)) (member-append _ _ l k)

  -- the line of each run stands on the sheet
  line_listed : (v : View) (upright : Bool) (r : Run) → Member (runs_along upright (of_view v d)) r
      → Member lines (run_line v upright (right_on_sheet far_x v) (up_on_sheet far_z v) r)
  line_listed v upright r k = on_sheet v _ (in_view upright k)
    where
      in_view : (kind : Bool) → Member (runs_along kind (of_view v d)) r
          → Member (placed_lines far_x far_z d v) (run_line v kind (right_on_sheet far_x v) (up_on_sheet far_z v) r)
      in_view false l = member-append_left _ _ _ (member-map (run_line v false (right_on_sheet far_x v) (up_on_sheet far_z v)) _ r l)
      in_view true l = member-append_right _ _ _ (member-map (run_line v true (right_on_sheet far_x v) (up_on_sheet far_z v)) _ r l)

      on_sheet : (w : View) (l : Line) → Member (placed_lines far_x far_z d w) l → Member lines l
      on_sheet Front l m = member-append_left _ _ l m
      on_sheet Top l m = member-append_right (placed_lines far_x far_z d Front) _ l (member-append_left _ _ l m)
      on_sheet Side l m = member-append_right (placed_lines far_x far_z d Front) _ l (member-append_right (placed_lines far_x far_z d Top) _ l m)

  -- ---- what they show

  module _ (runs : (v : View) (upright : Bool) → AreRuns (runs_along upright (of_view v d))) where
    -- a line that covers a segment at its view's place has its style
    style_of_covering : (style : Style) (g : Segment)
        → is_covered style lines (farther (right_on_sheet far_x g.view) (up_on_sheet far_z g.view) g) ≡ true → style_in d g ≡ style
    style_of_covering style g e =
        let c = covering_line style lines (farther (right_on_sheet far_x g.view) (up_on_sheet far_z g.view) g) e in
        let of_run = run_of_line c.0 c.1 in
        let v = of_run.0 in let upright = of_run.1 in let m = of_run.2 in
        let shows = covering_shows (right_on_sheet far_x) (up_on_sheet far_z) v upright m.run g
        (each-at _ _ m.run (runs v upright).0 m.listed).0
        (ap (λ l. covers l (farther (right_on_sheet far_x g.view) (up_on_sheet far_z g.view) g)) m.is ∙ c.3) in
        sym (c.2 ∙ sym (ap (λ (l : Line). l.style) m.is)
        ∙ style_of_run (runs_along upright (of_view v d)) (runs v upright) m.run m.listed (line_of g) (start_of g) shows.on shows.covers_it
        ∙ (λ t. run_style (runs_along (shows.of_kind t) (of_view (shows.of_view t) d)) (line_of g) (start_of g)))

    -- a segment that isn't blank is covered by a line of its style
    covered_in_style : (g : Segment) → style_in d g ≢ Blank
        → is_covered (style_in d g) lines (farther (right_on_sheet far_x g.view) (up_on_sheet far_z g.view) g) ≡ true
    covered_in_style g drawn =
        let rs : List Run = runs_along g.upright (of_view g.view d) in
        let m = covering_run rs (line_of g) (start_of g) drawn in
        let at = covers_parts (line_of g) (start_of g) m.0 m.2 in
        let h : Segment = farther (right_on_sheet far_x g.view) (up_on_sheet far_z g.view) g in
        let style = style_of_run rs (runs g.view g.upright) m.0 m.1 (line_of g) (start_of g) at.0 (covers_from m.0 (start_of g) at.1 at.2) in
        ap (λ s. is_covered s lines h) (sym style)
        ∙ covered_by lines (run_line g.view g.upright (right_on_sheet far_x g.view) (up_on_sheet far_z g.view) m.0) h
        (line_listed g.view g.upright m.0 m.1) (shows_covering (right_on_sheet far_x g.view) (up_on_sheet far_z g.view) m.0 g m.2)

    -- on the sheet a segment has the style that the runs give it
    pub sheet_shows : (g : Segment) → sheet_style lines (farther (right_on_sheet far_x g.view) (up_on_sheet far_z g.view) g) ≡ style_in d g
    sheet_shows g = by (is_covered Solid lines h) (is_covered Dashed lines h) (style_in d g) (style_of_covering Solid g) (style_of_covering Dashed g)
        (λ e. ap (λ s. is_covered s lines h) (sym e) ∙ covered_in_style g (λ blank. let p = sym e ∙ blank in cc))
        (λ e. ap (λ s. is_covered s lines h) (sym e) ∙ covered_in_style g (λ blank. let p = sym e ∙ blank in cc))
      where
        h : Segment
        h = farther (right_on_sheet far_x g.view) (up_on_sheet far_z g.view) g

        by : (solid dashed : Bool) (style : Style) → (solid ≡ true → style ≡ Solid) → (dashed ≡ true → style ≡ Dashed)
            → (style ≡ Solid → solid ≡ true) → (style ≡ Dashed → dashed ≡ true) → (if solid then Solid else (if dashed then Dashed else Blank)) ≡ style
        by true dashed style p q r t = sym (p refl)
        by false true style p q r t = sym (q refl)
        by false false Blank p q r t = refl
        by false false Dashed p q r t = absurd (false≢true (t refl))
        by false false Solid p q r t = absurd (false≢true (r refl))
