-- A solid shows a layer whole exactly where it draws the bytes that are wanted from the first lines on that it draws.
use Rattle.std.proofs.Common.{◌≡◌, ◌≢◌, ◌↔◌, ◌⊎◌, inl, inr, ⊎_elim, Bool, true, false, nat_lt, if◌then◌else◌, ℕ, suc, ◌+◌, ◌-◌, ◌*◌, ◌/◌, ◌%◌, ◌<◌, ◌≤◌, List, [], ◌∷◌, length, map, slice_index_or, ℤ, pos, ◌<ℤ◌, ◌≤ℤ◌, refl, ap, sym, subst, ◌∙◌, arith}
use Rattle.std.specs.List.{range_with_len}
use Rattle.std.proofs.lemmas.Bool.{lt-ltb, cases_lt, false≢true}
use Rattle.std.proofs.lemmas.Int.{ints}
use Rattle.std.proofs.lemmas.List.{length-map, get_or-map}
use Rattle.std.proofs.lemmas.List.FromFn.{length-range_with_len, get_or-range_with_len}
use Rattle.std.proofs.lemmas.Nat.{div-mul-add, mod-mul-add, mul-add-lt}
use Rattle.std.proofs.Math.Nat.{mul_comm}
use Rattle.lemmas.specs.Lists.{Member, Ascends}
use Rattle.lemmas.proofs.ListPlaces.{member-place}
use Rattle.solid_model.specs.declared.cell.Axis.{Axis}
use Rattle.solid_model.specs.declared.cell.Cell.{Cell}
use Rattle.solid_model.specs.declared.frame.Frame.{Frame}
use Rattle.solid_model.specs.declared.frame.View.{View}
use Rattle.solid_model.specs.declared.frame.View.TheVariants.{Front, Top, Side}
use Rattle.solid_model.specs.declared.runs.Run.{Run}
use Rattle.solid_model.specs.declared.segment.Segment.{Segment}
use Rattle.solid_model.specs.declared.segment.Style.{Style}
use Rattle.solid_model.specs.declared.segment.Style.TheVariants.{Blank}
use Rattle.solid_model.specs.Cells.{is_full, IsSolid}
use Rattle.solid_model.specs.DrawnStyle.{solid_drawing}
use Rattle.solid_model.specs.Frames.{frame_of, along, across}
use Rattle.solid_model.specs.Grid.{Coordinates, is_in_gap, IsInSomeGap, gaps_along, IsUnionOf}
use Rattle.solid_model.specs.Moved.{BeginsAt}
use Rattle.solid_model.specs.PerView.{of_view}
use Rattle.solid_model.specs.Runs.{run_style, AreRuns, ViewRuns, runs_along}
use Rattle.solid_model.specs.Segments.{along_of, across_of, line_of, segment_at}
use Rattle.solid_model.proofs.Gaps.{member, lies_in, begins_gap, earlier_at_most}
use Rattle.solid_model.proofs.InGrid.{gap_or_none}
use Rattle.solid_model.proofs.OnGrid.{StaysOnGrid}
use Rattle.solid_model.proofs.SameOnGrid.{member_or_not}
use Rattle.solid_model.proofs.Styles.{cell_beside_drawn, drawn_style_drawn, one_style}
use Rattle.solid_model.proofs.Views.{views_are_frames}
use Rattle.solid_model.proofs.WithinViews.{Least, IsOutermost, outermost}
use Rattle.column_lanes.specs.Styles.{style_byte}
use Rattle.column_lanes.proofs.StyleBytes.{same_style}
use Rattle.column_laws.specs.GridColumns.{grid_column}
use Rattle.column_laws.specs.GridPanels.{HasCounts, IsColumnBeside, AreColumnsBeside, IsStyleBetween}
use Rattle.column_laws.proofs.GridSegments.{segment_drawn}
use Rattle.redraw.proofs.SolidBegins.{outermost_drawn}
use Rattle.redraw.proofs.SomeFile.{some_file}
use Rattle.dxf_entities.specs.declared.layer.Layer.{Layer}
use Rattle.six_views.specs.Fits.{ShowsMoved}
use Rattle.further_views.specs.Further.{view_style}
use Rattle.six_views.specs.SightFrames.{sight_frame}
use Rattle.six_views.specs.MovedRuns.{AreMovedRuns}
use Rattle.six_views.specs.Turned.{turned_cells, turned_coordinates, AreTurnedCells}
use Rattle.six_views.proofs.FirstRuns.{line_at}
use Rattle.six_views.proofs.MovedRuns.{shows_where_moved}
use Rattle.six_views.proofs.SeenTurned.{some_turned, turned_union, seen_on_grid}
use Rattle.six_views.proofs.Turned.{sight_drawn}
use Rattle.six_views.proofs.TurnedColumns.{column_turned}
use Rattle.six_views.proofs.TurnedGrid.{count-turned, counts-turned}
use Rattle.fit_lanes.specs.Drawn.{DrawsLine, DrawsNoLine, IsFirstLine}
use Rattle.fit_lanes.specs.Points.{point_byte, ArePointBytes}
use Rattle.fit_lanes.specs.Sights.{width, height}
use Rattle.fit_lanes.specs.Wanted.{HaveRuns, turned_lines, turned_ends, TellRuns, ArePlaced}
use Rattle.fit_lanes.proofs.WantedBytes.{lines_count, ends_count}

-- both views have the same axes
same_across : (x : Layer) (upright : Bool) → (across (sight_frame x) upright).axis ≡ (across (frame_of x.view) upright).axis
same_across x upright = by x.view x.opposite upright
  where
    by : (v : View) (opposite upright : Bool) → (across (sight_frame (record x { view = v; opposite = opposite })) upright).axis ≡ (across (frame_of v) upright).axis
    by v false upright = refl
    by Front true true = refl
    by Front true false = refl
    by Top true true = refl
    by Top true false = refl
    by Side true true = refl
    by Side true false = refl

same_along : (x : Layer) (upright : Bool) → (along (sight_frame x) upright).axis ≡ (along (frame_of x.view) upright).axis
same_along x upright = by x.view x.opposite upright
  where
    by : (v : View) (opposite upright : Bool) → (along (sight_frame (record x { view = v; opposite = opposite })) upright).axis ≡ (along (frame_of v) upright).axis
    by v false upright = refl
    by Front true true = refl
    by Front true false = refl
    by Top true true = refl
    by Top true false = refl
    by Side true true = refl
    by Side true false = refl

at_most : (m n : ℕ) → m < n + 1 → m ≤ n
at_most m n l = omega arith

below : (m n : ℕ) → m ≤ n → m < n + 1
below m n l = omega arith

before_last : (m n : ℕ) → suc m < n → m < n - 1
before_last m n l = omega arith

-- ---- points of lines, of a view of so many cells with these bytes and styles by line and cell

module _ {w h : ℕ} where
  to_line : (u : Bool) (bytes : List ℕ) (style : ℕ → ℕ → Style)
      → ((i j : ℕ) → i ≤ w → j ≤ h → along_of u i j < along_of u w h → style (across_of u i j) (along_of u i j) ≢ Blank → slice_index_or bytes (j * (w + 1) + i) 0 ≢ 0)
      → (line cell : ℕ) → line ≤ across_of u w h → cell < along_of u w h → style line cell ≢ Blank → DrawsLine w h u bytes line
  to_line true bytes style some line cell l m drawn = (
    cell,
    omega arith,
    λ e. some line cell l (omega arith) m drawn (ap (λ p. slice_index_or bytes p 0) (let p : cell * (w + 1) + line ≡ line + cell * (w + 1) = omega arith in p) ∙ e),
  )
  to_line false bytes style some line cell l m drawn = (
    cell,
    omega arith,
    λ e. some cell line (omega arith) l m drawn (ap (λ p. slice_index_or bytes p 0) (let p : line * (w + 1) + cell ≡ line * (w + 1) + cell * 1 = omega arith in p) ∙ e),
  )

  from_line : (u : Bool) (bytes : List ℕ) (style : ℕ → ℕ → Style)
      → ((i j : ℕ) → i ≤ w → j ≤ h → slice_index_or bytes (j * (w + 1) + i) 0 ≢ 0 → style (across_of u i j) (along_of u i j) ≢ Blank)
      → (line : ℕ) → line ≤ across_of u w h → DrawsLine w h u bytes line → (cell : ℕ) × (style line cell ≢ Blank)
  from_line true bytes style drawn line l (n, m, some) =
      (n, drawn line n l (omega arith) (λ e. some (ap (λ p. slice_index_or bytes p 0) (let p : line + n * (w + 1) ≡ n * (w + 1) + line = omega arith in p) ∙ e)))
  from_line false bytes style drawn line l (n, m, some) =
      (n, drawn n line (omega arith) l (λ e. some (ap (λ p. slice_index_or bytes p 0) (let p : line * (w + 1) + n * 1 ≡ line * (w + 1) + n = omega arith in p) ∙ e)))

module _ (x : Layer) (coordinates : Coordinates) (ordered : (a : Axis) → Ascends ◌<ℤ◌ (coordinates a)) (some : (a : Axis) → 0 < length (coordinates a))
    (chosen : List Bool) (s : List Cell) (union : IsUnionOf coordinates chosen (is_full s)) where
  abbrev f : Frame
  f = sight_frame x

  abbrev v : View
  v = x.view

  abbrev main : Frame
  main = frame_of v

  abbrev sizes : Axis → ℕ
  sizes = gaps_along coordinates

  abbrev w : ℕ
  w = width x sizes

  abbrev h : ℕ
  h = height x sizes

  abbrev counts : Axis → ℕ
  counts a = length (coordinates a)

  has : HasCounts counts coordinates
  has = record { ordered = ordered; count = λ a. refl }

  abbrev grid : Coordinates
  grid = turned_coordinates x coordinates

  abbrev lines : Bool → List ℤ
  lines upright = turned_lines coordinates x upright

  abbrev ends : Bool → List ℤ
  ends upright = turned_ends coordinates x upright

  abbrev turned : List Bool
  turned = (some_turned x sizes chosen).0

  are : AreTurnedCells x sizes chosen turned
  are = (some_turned x sizes chosen).1

  abbrev drawing : Segment → Style
  drawing = solid_drawing (turned_cells x s)

  stays : StaysOnGrid grid drawing
  stays = seen_on_grid x counts coordinates has chosen turned are s union

  grid_ordered : (a : Axis) → Ascends ◌<ℤ◌ (grid a)
  grid_ordered = (counts-turned x coordinates counts has).ordered

  -- ---- the drawing stays on the grid

  off_lines : (upright : Bool) (start line : ℤ) → (Member (lines upright) line → ⊥) → drawing (segment_at v upright start line) ≡ Blank
  off_lines upright = subst (λ (a : Axis). (start line : ℤ) → (Member (grid a) line → ⊥) → drawing (segment_at v upright start line) ≡ Blank)
      (sym (same_across x upright)) (λ start line. stays.off_lines v upright start line)

  off_ends : (upright : Bool) (start line : ℤ) → (IsInSomeGap (ends upright) start → ⊥) → drawing (segment_at v upright start line) ≡ Blank
  off_ends upright = subst (λ (a : Axis). (start line : ℤ) → (IsInSomeGap (grid a) start → ⊥) → drawing (segment_at v upright start line) ≡ Blank)
      (sym (same_along x upright)) (λ start line. stays.off_ends v upright start line)

  steady : (upright : Bool) (n : ℕ) (start other line : ℤ) → is_in_gap (ends upright) n start ≡ true → is_in_gap (ends upright) n other ≡ true
      → drawing (segment_at v upright start line) ≡ drawing (segment_at v upright other line)
  steady upright = subst (λ (a : Axis). (n : ℕ) (start other line : ℤ) → is_in_gap (grid a) n start ≡ true → is_in_gap (grid a) n other ≡ true
      → drawing (segment_at v upright start line) ≡ drawing (segment_at v upright other line))
      (sym (same_along x upright)) (λ n start other line. stays.steady v upright n start other line)

  -- ---- its styles on the grid

  abbrev cells : Bool → ℕ
  cells upright = length (ends upright) - 1

  abbrev pub style_from : Bool → ℕ → ℕ → Style
  style_from upright line cell = drawing (segment_at v upright (member (ends upright) cell) (member (lines upright) line))

  abbrev pub styles : Bool → List Style
  styles upright = map (λ p. style_from upright (p / cells upright) (p % cells upright)) (range_with_len 0 (length (lines upright) * cells upright))

  styles_count : (upright : Bool) → length (styles upright) ≡ length (lines upright) * cells upright
  styles_count upright = length-map (range_with_len 0 (length (lines upright) * cells upright)) _ ∙ length-range_with_len 0 (length (lines upright) * cells upright)

  style_at : (upright : Bool) (line cell : ℕ) → line < length (lines upright) → cell < cells upright
      → slice_index_or (styles upright) (line * cells upright + cell) Blank ≡ style_from upright line cell
  style_at upright line cell l m =
      let c : ℕ = cells upright in
      let n : ℕ = length (lines upright) * c in
      let p : ℕ = line * c + cell in
      let within : p < n = omega (arith, mul-add-lt line c cell (length (lines upright)) l m, mul_comm c (length (lines upright))) in
      let first : 0 + p ≡ p = omega arith in
      get_or-map (λ q. style_from upright (q / c) (q % c)) (range_with_len 0 n) p 0 Blank (subst (λ k. p < k) (sym (length-range_with_len 0 n)) within)
      ∙ ap (λ q. style_from upright (q / c) (q % c)) (get_or-range_with_len 0 n p 0 within ∙ first)
      ∙ (λ t. style_from upright (div-mul-add line c cell m t) (mod-mul-add line c cell m t))

  -- runs that show it are those of the styles
  pub have_runs : (upright : Bool) (own : List Run) → AreRuns own → ((j z : ℤ) → run_style own j z ≡ drawing (segment_at v upright z j))
      → HaveRuns (lines upright) (ends upright) (styles upright) own
  have_runs upright own runs show = record {
    count = styles_count upright;
    runs_on = record {
      are_runs = runs;
      shown = λ line cell z l gap.
          let es = ends upright in
          let lies = (lies_in es cell z gap).within in
          show (member (lines upright) line) z
          ∙ steady upright cell z (member es cell) (member (lines upright) line) gap (begins_gap es (grid_ordered (along f upright).axis) cell lies)
          ∙ sym (style_at upright line cell l (omega arith));
      off_lines = λ j z none. show j z ∙ off_lines upright z j none;
      off_ends = λ j z none. show j z ∙ off_ends upright z j none;
    };
  }

  -- what is drawn has a full cell beside it
  pub full_by_drawn : (g : Segment) → g.view ≡ v → drawing g ≢ Blank → (c : Cell) × (is_full (turned_cells x s) c ≡ true)
  full_by_drawn g of drawn =
      let b = cell_beside_drawn (frame_of g.view) (views_are_frames g.view) (is_full (turned_cells x s)) g (drawing g)
      (drawn_style_drawn (frame_of g.view) (views_are_frames g.view) (turned_cells x s) g) drawn in
      (b.cell, b.is_full)

  -- ---- what columns draw

  beside_turned : (upright : Bool) (start line n : ℕ) → start < sizes (along main upright).axis → IsColumnBeside f sizes chosen upright start line n
      → IsColumnBeside main sizes turned upright start line n
  beside_turned upright start line n m at = record {
    inside = λ l k. at.inside (subst (λ (a : Axis). line < sizes a) (sym (same_across x upright)) l) k ∙ by upright l m k;
    outside = λ l. at.outside (subst (λ (a : Axis). sizes a ≤ line) (sym (same_across x upright)) l);
  }
    where
      by : (u : Bool) → line < sizes (across main u).axis → start < sizes (along main u).axis → (k : ℤ)
          → grid_column f sizes chosen (across_of u line start) (along_of u line start) k ≡ grid_column main sizes turned (across_of u line start) (along_of u line start) k
      by true l m = column_turned x sizes chosen turned are line start l m
      by false l m = column_turned x sizes chosen turned are start line m l

  -- the style between two columns is that of the drawing
  between_drawn : (upright : Bool) (line cell : ℕ) → line < length (lines upright) → cell < cells upright → (style : Style)
      → IsStyleBetween f sizes chosen upright cell line style → style ≡ style_from upright line cell
  between_drawn upright line cell l m style (after, before, at, draws) =
      let e : length (ends upright) ≡ length (grid (along main upright).axis) = ap (λ (a : Axis). length (grid a)) (same_along x upright) in
      let e_lines : length (lines upright) ≡ length (grid (across main upright).axis) = ap (λ (a : Axis). length (grid a)) (same_across x upright) in
      let gaps : gaps_along grid ≡ sizes = (λ t b. count-turned x coordinates b t - 1) in
      let few : cell < sizes (along main upright).axis = subst (λ (n : Axis → ℕ). cell < n (along main upright).axis) gaps (omega arith) in
      let beside : AreColumnsBeside main sizes turned upright cell line after before = record {
        after_is = beside_turned upright cell line after few at.after_is;
        before_first = at.before_first;
        before_is = λ n is. beside_turned upright cell n before few (at.before_is n is);
      } in
      segment_drawn grid grid_ordered turned (turned_cells x s) (turned_union x counts coordinates has chosen turned are s union) v upright cell line after before
      (subst (λ (n : Axis → ℕ). AreColumnsBeside main n turned upright cell line after before) (sym gaps) beside) (omega arith) (omega arith) style draws
      ∙ (λ t. drawing (segment_at v upright (member (grid (sym (same_along x upright) t)) cell) (member (grid (sym (same_across x upright) t)) line)))

  module _ (upright : Bool) (bytes : List ℕ) (long : length bytes ≡ (h + 1) * (w + 1))
      (between : (i j : ℕ) → i ≤ w → j ≤ h → along_of upright i j < along_of upright w h
      → (style : Style) × IsStyleBetween f sizes chosen upright (along_of upright i j) (across_of upright i j) style × (slice_index_or bytes (j * (w + 1) + i) 0 ≡ style_byte style))
      (none : (i j : ℕ) → i ≤ w → j ≤ h → along_of upright w h ≤ along_of upright i j → slice_index_or bytes (j * (w + 1) + i) 0 ≡ 0) where
    across_within : (u : Bool) (i j : ℕ) → i ≤ w → j ≤ h → across_of u i j < across_of u w h + 1
    across_within true i j l m = omega arith
    across_within false i j l m = omega arith

    -- the bytes that are drawn are those of its styles,
    byte_at : (i j : ℕ) → i ≤ w → j ≤ h → along_of upright i j < along_of upright w h
        → slice_index_or bytes (j * (w + 1) + i) 0 ≡ style_byte (style_from upright (across_of upright i j) (along_of upright i j))
    byte_at i j l m n =
        let b = between i j l m n in
        let on : across_of upright i j < length (lines upright) = subst (λ k. across_of upright i j < k) (sym (lines_count x coordinates some upright)) (across_within upright i j l m) in
        let in_it : along_of upright i j < cells upright = subst (λ k. along_of upright i j < k) (sym (ends_count x coordinates some upright)) n in
        b.2 ∙ ap style_byte (between_drawn upright (across_of upright i j) (along_of upright i j) on in_it b.0 b.1)

    pub point_bytes : ArePointBytes w h upright (styles upright) bytes
    point_bytes = record {
      count = long;
      each = λ i j l m. elim (cases_lt (along_of upright i j) (along_of upright w h)) as (λ _. slice_index_or bytes (j * (w + 1) + i) 0 ≡ point_byte w h upright (styles upright) i j) [
        | inl n ↦ (
            let on : across_of upright i j < length (lines upright) = subst (λ k. across_of upright i j < k) (sym (lines_count x coordinates some upright)) (across_within upright i j l m) in
            let in_it : along_of upright i j < cells upright = subst (λ k. along_of upright i j < k) (sym (ends_count x coordinates some upright)) n in
            byte_at i j l m n ∙ ap style_byte (sym (style_at upright (across_of upright i j) (along_of upright i j) on in_it))
            ∙ ap (λ k. style_byte (slice_index_or (styles upright) (across_of upright i j * k + along_of upright i j) Blank)) (ends_count x coordinates some upright)
            ∙ sym (ap (λ (b : Bool). if b then style_byte (slice_index_or (styles upright) (across_of upright i j * along_of upright w h + along_of upright i j) Blank) else 0)
            (lt-ltb (along_of upright i j) (along_of upright w h) n)))
        | inr n ↦ (
            let off : nat_lt (along_of upright i j) (along_of upright w h) ≡ false = grind (arith, n) in
            none i j l m n ∙ sym (ap (λ (b : Bool). if b then style_byte (slice_index_or (styles upright) (across_of upright i j * along_of upright w h + along_of upright i j) Blank) else 0) off))
      ];
    }

    -- and what isn't 0 is drawn
    pub drawn_at : (i j : ℕ) → i ≤ w → j ≤ h → slice_index_or bytes (j * (w + 1) + i) 0 ≢ 0
        → style_from upright (across_of upright i j) (along_of upright i j) ≢ Blank
    drawn_at i j l m some_byte blank = elim (cases_lt (along_of upright i j) (along_of upright w h)) [
      | inl n ↦ some_byte (byte_at i j l m n ∙ ap style_byte blank)
      | inr n ↦ some_byte (none i j l m n)
    ]

    -- ---- on which lines

    -- a style that is drawn has a byte that isn't 0,
    byte_drawn : (i j : ℕ) → i ≤ w → j ≤ h → along_of upright i j < along_of upright w h
        → style_from upright (across_of upright i j) (along_of upright i j) ≢ Blank → slice_index_or bytes (j * (w + 1) + i) 0 ≢ 0
    byte_drawn i j l m n drawn e = drawn (same_style _ Blank (sym (byte_at i j l m n) ∙ e))

    -- and so its line is drawn
    line_drawn : (line cell : ℕ) → line ≤ across_of upright w h → cell < along_of upright w h → style_from upright line cell ≢ Blank → DrawsLine w h upright bytes line
    line_drawn = to_line upright bytes (style_from upright) byte_drawn

    drawn_line : (line : ℕ) → line ≤ across_of upright w h → DrawsLine w h upright bytes line → (cell : ℕ) × (style_from upright line cell ≢ Blank)
    drawn_line = from_line upright bytes (style_from upright) drawn_at

    -- an outermost edge is drawn on a line of the grid
    module _ (o : IsOutermost main (turned_cells x s) v upright Least) where
      record IsOnLine : Type 0 where
        number : ℕ
        within : number ≤ across_of upright w h
        same : member (lines upright) number ≡ o.line
        there : DrawsLine w h upright bytes number

      on_line : IsOnLine
      on_line = by (member_or_not (lines upright) o.line) (gap_or_none (ends upright) (grid_ordered (along f upright).axis) o.start)
        where
          drawn : drawing (segment_at v upright o.start o.line) ≢ Blank
          drawn = outermost_drawn (turned_cells x s) v upright o

          by : Member (lines upright) o.line ⊎ (Member (lines upright) o.line → ⊥) → IsInSomeGap (ends upright) o.start ⊎ (IsInSomeGap (ends upright) o.start → ⊥) → IsOnLine
          by (inr none) gap = absurd (drawn (off_lines upright o.start o.line none))
          by (inl k) (inr none) = absurd (drawn (off_ends upright o.start o.line none))
          by (inl k) (inl gap) =
              let es = ends upright in
              let at = member-place (lines upright) o.line k in
              let lies = (lies_in es gap.0 o.start gap.1).within in
              let same : member (lines upright) at.0 ≡ o.line = at.2 (pos 0) in
              let within = at_most at.0 (across_of upright w h) (subst (λ k. at.0 < k) (lines_count x coordinates some upright) at.1) in
              let few = subst (λ k. gap.0 < k) (ends_count x coordinates some upright) (before_last gap.0 (length es) lies) in
              record {
                number = at.0;
                within = within;
                same = same;
                there = line_drawn at.0 gap.0 within few (λ blank. drawn
                    (steady upright gap.0 o.start (member es gap.0) o.line gap.1 (begins_gap es (grid_ordered (along f upright).axis) gap.0 lies)
                    ∙ ap (λ z. drawing (segment_at v upright (member es gap.0) z)) (sym same) ∙ blank));
              }

      -- which is the first that is drawn
      first_is : (line : ℕ) → IsFirstLine w h upright bytes line → o.line ≡ member (lines upright) line
      first_is line first =
          let there = on_line in
          let c = drawn_line line first.within first.drawn in
          let zs = lines upright in
          let g : Segment = segment_at v upright (member (ends upright) c.0) (member zs line) in
          let b = cell_beside_drawn main (views_are_frames v) (is_full (turned_cells x s)) g (drawing g) (drawn_style_drawn main (views_are_frames v) (turned_cells x s) g) c.1 in
          let at = line_at v upright (member (ends upright) c.0) (member zs line) in
          let inner = o.inner b.cell b.is_full in
          let high : o.line ≤ℤ member zs line = ⊎_elim {C = o.line ≤ℤ member zs line} (λ e. omega (arith, ints, at, inner)) (λ e. omega (arith, ints, at, inner)) b.at_line in
          let early : line ≤ there.number = elim (cases_lt there.number line) as (λ _. line ≤ there.number) [ inl l ↦ absurd (first.first there.number l there.there) | inr l ↦ l ] in
          let few = subst (λ k. there.number < k) (sym (lines_count x coordinates some upright)) (below there.number (across_of upright w h) there.within) in
          let low = earlier_at_most zs (grid_ordered (across f upright).axis) line there.number early few in
          omega (arith, ints, low, high, there.same)

    -- where a cell is full some line is drawn
    pub some_line : (c : Cell) → is_full (turned_cells x s) c ≡ true → DrawsNoLine w h upright bytes → ⊥
    some_line c full none =
        let there = on_line (outermost main (views_are_frames v) (turned_cells x s) v upright Least c full) in
        none there.number there.within there.there

    -- a drawn line has a full cell beside it
    pub full_beside : (line : ℕ) → IsFirstLine w h upright bytes line → (c : Cell) × (is_full (turned_cells x s) c ≡ true)
    full_beside line first =
        let c = drawn_line line first.within first.drawn in
        full_by_drawn (segment_at v upright (member (ends upright) c.0) (member (lines upright) line)) refl c.1

    -- the first drawn line is that of the outermost edges
    pub outermost_at : (line : ℕ) → IsFirstLine w h upright bytes line → (c : Cell) → is_full (turned_cells x s) c ≡ true
        → (o : IsOutermost main (turned_cells x s) v upright Least) × (o.line ≡ member (lines upright) line)
    outermost_at line first c full =
        let o = outermost main (views_are_frames v) (turned_cells x s) v upright Least c full in
        (o, first_is o line first)

  -- ---- what is shown

  module _ (shown : ViewRuns) (kept : (upright : Bool) → AreRuns (runs_along upright shown)) (right up : ℕ)
      (begins : BeginsAt drawing v (member (lines true) right) (member (lines false) up)) where
    -- the runs of the view, which show it
    pub record OwnRuns : Type 0 where
      pub own : ViewRuns
      pub runs : (upright : Bool) → AreRuns (runs_along upright own)
      pub show : (g : Segment) → g.view ≡ v → view_style own g ≡ drawing g

    pub own_runs : OwnRuns
    own_runs =
        let at = begins.at_left in
        let solid : IsSolid (turned_cells x s) = drawn_solid (turned_cells x s) at.0 at.2 in
        let (text, (far_x, far_z, d, sheet, is)) = some_file (turned_cells x s) solid 0 in
        record {
          own = of_view v d;
          runs = sheet.runs.runs v;
          show = λ g of. (λ t. view_style (of_view (sym of t) d) g) ∙ sheet.runs.show g;
        }
      where
        full_solid : (cs : List Cell) (c : Cell) → is_full cs c ≡ true → IsSolid cs
        full_solid [] c full = absurd (false≢true full)
        full_solid (d ∷ cs) c full = tt

        drawn_solid : (cs : List Cell) (g : Segment) → solid_drawing cs g ≢ Blank → IsSolid cs
        drawn_solid cs g drawn =
            let f = frame_of g.view in
            let is = views_are_frames g.view in
            let b = cell_beside_drawn f is (is_full cs) g (solid_drawing cs g) (drawn_style_drawn f is cs g) drawn in
            full_solid cs b.cell b.is_full

    show_at : (upright : Bool) (j z : ℤ) → run_style (runs_along upright own_runs.own) j z ≡ drawing (segment_at v upright z j)
    show_at true j z = own_runs.show (segment_at v true z j) refl
    show_at false j z = own_runs.show (segment_at v false z j) refl

    abbrev pub Placed : Bool → Type 0
    Placed upright = ArePlaced coordinates x shown right up upright (runs_along upright own_runs.own)

    -- bytes of its styles tell its runs
    pub tell_own : (upright : Bool) (bytes : List ℕ) → ArePointBytes w h upright (styles upright) bytes → TellRuns coordinates x upright bytes (runs_along upright own_runs.own)
    tell_own upright bytes tell = (styles upright, have_runs upright _ (own_runs.runs upright) (show_at upright), tell)

    moved_of : Placed false → Placed true → AreMovedRuns (member (lines true) right) (member (lines false) up) shown own_runs.own
    moved_of level upright true = upright
    moved_of level upright false = level

    pub shows_where_placed : (Placed false × Placed true) ↔ ShowsMoved f (is_full s) (view_style shown) v
    shows_where_placed =
        let both = shows_where_moved f (is_full s) v drawing (sight_drawn x s) own_runs.own shown own_runs.runs kept own_runs.show (member (lines true) right) (member (lines false) up) begins in
        ((λ placed. both.1 (moved_of placed.0 placed.1)), (λ shows. (both.0 shows false, both.0 shows true)))

  -- where no cell is full nothing is shown
  pub shows_some : (shown : Segment → Style) → ShowsMoved f (is_full s) shown v → (c : Cell) × (is_full (turned_cells x s) c ≡ true)
  shows_some shown (other, draws, (right, up, begins, moved)) =
      let at = begins.at_left in
      full_by_drawn at.0 at.1 (λ blank. at.2 (one_style f (is_full s) at.0 _ _ (draws at.0 at.1) (sight_drawn x s at.0 at.1) ∙ blank))
