-- A row of cubes on its grid: which grid cells are full, that it matches its drawing, and which grid segments are blank.
use Rattle.std.proofs.Common.{◌≡◌, ⊎_elim, inl, inr, Bool, true, false, not, ℕ, zero, suc, ◌+◌, ◌-◌, ◌<◌, ◌≤◌, List, length, drop, None, ℤ, pos, negsuc, ◌-ℤ◌, refl, ap, sym, subst, ◌∙◌, arith}
use Rattle.std.proofs.lemmas.Bool.{false≢true, both_ways, cases_lt, ltb-true, lt-ltb}
use Rattle.std.proofs.lemmas.Int.{ints}
use Rattle.std.proofs.lemmas.List.{length-map, length-drop, get_or_past}
use Rattle.std.proofs.lemmas.Option.{none-some}
use Rattle.solid_model.specs.declared.cell.Axis.{Axis}
use Rattle.solid_model.specs.declared.cell.Axis.TheVariants.{X, Y, Z}
use Rattle.solid_model.specs.declared.cell.Cell.{Cell}
use Rattle.solid_model.specs.declared.frame.View.{View}
use Rattle.solid_model.specs.declared.frame.View.TheVariants.{Front, Top, Side}
use Rattle.solid_model.specs.declared.segment.Segment.{Segment}
use Rattle.solid_model.specs.declared.segment.Style.TheVariants.{Blank}
use Rattle.solid_model.specs.Cells.{coordinate, placed, cell_before, is_full}
use Rattle.solid_model.specs.Columns.{cell_in}
use Rattle.solid_model.specs.DrawnStyle.{solid_drawing}
use Rattle.solid_model.specs.Frames.{frame_of, along, across, cell_on, at_places}
use Rattle.solid_model.specs.Grid.{is_in_gap, IsInSomeGap}
use Rattle.solid_model.specs.Matching.{Matches}
use Rattle.solid_model.specs.Panels.{GridParts, coordinates_of, IsGridOf}
use Rattle.solid_model.specs.WalledBoxes.{is_below, is_within, place_of_number}
use Rattle.solid_model.specs.Runs.{IsDrawing}
use Rattle.solid_model.specs.Segments.{segment_at}
use Rattle.solid_model.specs.Wire.{is_blank_style, is_drawn_view, is_drawn_from}
use Rattle.solid_model.specs.GridBox.{grid_sizes, grid_cell_of, axis_along, axis_across, grid_style, IsGridFullness}
use Rattle.solid_model.proofs.BoxCells.{within-below, below-within}
use Rattle.solid_model.proofs.ColumnRule.{equal_columns}
use Rattle.solid_model.proofs.Gaps.{member, member_of, begins_gap, ends_gap, last_in_none, before_first_in_none}
use Rattle.solid_model.proofs.GridMatching.{matches_from_drawing, shown_drawn}
use Rattle.solid_model.proofs.GridStyle.{grid_style-drawing, blank_off_grid}
use Rattle.solid_model.proofs.InGrid.{gap_or_none, placed_at}
use Rattle.solid_model.proofs.Styles.{one_style, drawn_style_drawn}
use Rattle.solid_model.proofs.Views.{views_are_frames, runs_forward, stands_forward, forward_cell}
use Rattle.redraw.proofs.SolidBegins.{solid_begins}
use Rattle.drawing_maker.specs.declared.cube.Cube.{Cube}
use Rattle.drawing_maker.specs.declared.ticks.Tick.{Tick}
use Rattle.drawing_maker.specs.Cubes.{row_cells}
use Rattle.drawing_maker.specs.Rows.{row_ticks, coordinates_of_ticks}
use Rattle.drawing_maker.proofs.Rows.{IsRow}
use Rattle.made_laws.proofs.RowCubelets.{Covers, IsIn, IsOff, in_or_off, full_at, full_at_is, full_off, part_of_covered}
use Rattle.drawing_maker.proofs.RowTicks.{IsTold, ascends_row, told_in_gap, part_at}
use Rattle.drawing_maker.proofs.RowUnion.{full_where_told, in_gap_of_row}

module _ (ps : List Cube) (row : IsRow ps) where
  abbrev ticks_at : List ℤ
  ticks_at = coordinates_of_ticks (row_ticks ps)

  -- ---- what is told of a unit cell by the numbers of a grid cell

  told_of_number : (k z : ℤ) → is_below (length ticks_at - 1) k ≡ true → is_in_gap ticks_at (place_of_number k) z ≡ true → IsTold ps (part_at ps k) z
  told_of_number (pos k) z below e = told_in_gap ps row k z e
  told_of_number (negsuc k) z below e = absurd (false≢true below)

  told_in_none : (z : ℤ) → (IsInSomeGap ticks_at z → ⊥) → IsTold ps None z
  told_in_none z none p k spans = none (in_gap_of_row ps row p k z spans)

  -- each place has a number at which it is told
  told_somewhere : (z : ℤ) → (k : ℤ) × IsTold ps (part_at ps k) z
  told_somewhere z = ⊎_elim {C = (k : ℤ) × IsTold ps (part_at ps k) z} (λ gap. (pos gap.0, told_in_gap ps row gap.0 z gap.1))
      (λ none. (negsuc 0, told_in_none z none)) (gap_or_none ticks_at (ascends_row ps row) z)

  -- so it is at a tick, and just before it
  told_at_tick : (k : ℤ) → is_below (length ticks_at) k ≡ true → IsTold ps (part_at ps k) (member_of ticks_at k)
  told_at_tick (negsuc k) below = absurd (false≢true below)
  told_at_tick (pos k) below = elim (cases_lt (suc k) (length ticks_at)) as (λ _. IsTold ps (part_at ps (pos k)) (member_of ticks_at (pos k))) [
    | inl less ↦ told_in_gap ps row k (member_of ticks_at (pos k)) (begins_gap ticks_at (ascends_row ps row) k less)
    | inr most ↦ (let l = ltb-true k (length ticks_at) below in
        let last : k + 1 ≡ length ticks_at = omega arith in
        let past : length (drop 1 (row_ticks ps)) ≤ k =
        omega (arith, length-drop 1 (row_ticks ps), length-map (row_ticks ps) (λ (s : Tick). pos s.at), last) in
        subst (λ (s : Tick). IsTold ps s.before (member_of ticks_at (pos k))) (sym (get_or_past (drop 1 (row_ticks ps)) k _ past))
        (told_in_none (member_of ticks_at (pos k)) (λ gap. last_in_none ticks_at (ascends_row ps row) k last gap.0 gap.1)))
  ]

  told_before_tick : (k : ℤ) → is_below (length ticks_at) k ≡ true → IsTold ps (part_at ps (k -ℤ pos 1)) (member_of ticks_at k -ℤ pos 1)
  told_before_tick (negsuc k) below = absurd (false≢true below)
  told_before_tick (pos zero) below =
      told_in_none (member_of ticks_at (pos 0) -ℤ pos 1) (λ gap. before_first_in_none ticks_at (ascends_row ps row) gap.0 gap.1)
  told_before_tick (pos (suc k)) below =
      let before : pos k ≡ pos (suc k) -ℤ pos 1 = omega (arith, ints) in
      subst (λ j. IsTold ps (part_at ps j) (member_of ticks_at (pos (suc k)) -ℤ pos 1)) before
      (told_in_gap ps row k _ (ends_gap ticks_at (ascends_row ps row) k (ltb-true (suc k) (length ticks_at) below)))

  -- a unit cell is as full as the grid cell whose numbers tell of it
  full_where_numbered : (n c : Cell) → ((a : Axis) → IsTold ps (part_at ps (coordinate a n)) (coordinate a c)) → full_at ps row n ≡ is_full (row_cells ps) c
  full_where_numbered n c told = full_at_is ps row n ∙ sym (full_where_told ps row _ _ _ c (told X) (told Y) (told Z))

  by_three : (n c : Cell) → IsTold ps (part_at ps n.x) c.x → IsTold ps (part_at ps n.y) c.y → IsTold ps (part_at ps n.z) c.z
      → (a : Axis) → IsTold ps (part_at ps (coordinate a n)) (coordinate a c)
  by_three n c p q r X = p
  by_three n c p q r Y = q
  by_three n c p q r Z = r

  -- by a view's axes
  full_in_view : (v : View) (upright : Bool) (n : Cell) (i j k z : ℤ) → IsTold ps (part_at ps (coordinate (axis_along v upright) n)) i
      → IsTold ps (part_at ps (coordinate (axis_across v upright) n)) j → IsTold ps (part_at ps k) z
      → full_at ps row (placed (frame_of v).away.axis k n)
      ≡ is_full (row_cells ps) (at_places (axis_along v upright) i (axis_across v upright) j (frame_of v).away.axis z)
  full_in_view Front true n i j k z p q r = full_where_numbered _ _ (by_three _ _ q r p)
  full_in_view Front false n i j k z p q r = full_where_numbered _ _ (by_three _ _ p r q)
  full_in_view Top true n i j k z p q r = full_where_numbered _ _ (by_three _ _ q p r)
  full_in_view Top false n i j k z p q r = full_where_numbered _ _ (by_three _ _ p q r)
  full_in_view Side true n i j k z p q r = full_where_numbered _ _ (by_three _ _ r q p)
  full_in_view Side false n i j k z p q r = full_where_numbered _ _ (by_three _ _ r p q)

  -- the columns of a view stand beside each other along its axes
  full_in_cell : (v : View) (upright : Bool) (n : Cell) (i j k m : ℤ) → IsTold ps (part_at ps (coordinate (axis_along v upright) n)) i
      → IsTold ps (part_at ps (coordinate (axis_across v upright) n)) j → IsTold ps (part_at ps m) (cell_on (frame_of v).away k)
      → full_at ps row (placed (frame_of v).away.axis m n) ≡ is_full (row_cells ps) (cell_in (frame_of v) upright i j k)
  full_in_cell v upright n i j k m p q r =
      let e = forward_cell (along (frame_of v) upright) i (runs_forward v upright) in
      let f = forward_cell (across (frame_of v) upright) j (stands_forward v upright) in
      full_in_view v upright n i j m (cell_on (frame_of v).away k) p q r
      ∙ (λ t. is_full (row_cells ps) (at_places (axis_along v upright) (sym e t) (axis_across v upright) (sym f t) (frame_of v).away.axis (cell_on (frame_of v).away k)))

  kept_along : (v : View) (upright : Bool) (n : Cell) → coordinate (axis_along v upright) (cell_before (axis_across v upright) n) ≡ coordinate (axis_along v upright) n
  kept_along Front true n = refl
  kept_along Front false n = refl
  kept_along Top true n = refl
  kept_along Top false n = refl
  kept_along Side true n = refl
  kept_along Side false n = refl

  module _ (g : GridParts) (same : (a : Axis) → coordinates_of g a ≡ ticks_at) where
    sizes_are : (a : Axis) → grid_sizes g a ≡ length ticks_at - 1
    sizes_are a = ap (λ ws. length ws - 1) (same a)

    -- what lies in a cube is within the box
    pub covered_within : (p : Cube) (a : Axis) (z : ℤ) → Covers ps row p z → is_below (grid_sizes g a) z ≡ true
    covered_within p a (negsuc k) at = absurd (let l = at.from in omega (arith, ints, l))
    covered_within p a (pos k) at = elim (cases_lt k (length (drop 1 (row_ticks ps)))) as (λ _. is_below (grid_sizes g a) (pos k) ≡ true) [
      | inl less ↦ lt-ltb k (grid_sizes g a)
          (omega (arith, less, sizes_are a, length-drop 1 (row_ticks ps), length-map (row_ticks ps) (λ (s : Tick). pos s.at)))
      | inr past ↦ absurd (none-some _ (ap (λ (s : Tick). s.before) (sym (get_or_past (drop 1 (row_ticks ps)) k _ past)) ∙ part_of_covered ps row p (pos k) at))
    ]

    pub cube_within : (p : Cube) (n : Cell) → IsIn ps row p n → is_within (grid_sizes g) n ≡ true
    cube_within p n inside = below-within (grid_sizes g) n (λ a. covered_within p a (coordinate a n) (inside a))

    -- so a cell without the box is in none
    pub off_outside : (n : Cell) → is_within (grid_sizes g) n ≡ false → IsOff ps row n
    off_outside n out = ⊎_elim {C = IsOff ps row n} (λ at. absurd (both_ways _ out (cube_within at.0 n at.1))) (λ off. off) (in_or_off ps row n)

    -- the full grid cells
    pub full_on_grid : IsGridFullness g (row_cells ps) (full_at ps row)
    full_on_grid = record {
      inside = λ n c within lies. full_where_numbered n c (λ a. told_of_number (coordinate a n) (coordinate a c)
          (subst (λ m. is_below m (coordinate a n) ≡ true) (sizes_are a) (within-below (grid_sizes g) n within a))
          (subst (λ ws. is_in_gap ws (grid_cell_of n a) (coordinate a c) ≡ true) (same a) (lies a)));
      outside = λ n out. full_off ps row n (off_outside n out);
    }

    module _ (grid : IsGridOf (solid_drawing (row_cells ps)) g) (is : IsDrawing (solid_drawing (row_cells ps))) where
      -- the row matches its drawing
      pub row_matches : Matches (solid_drawing (row_cells ps)) (row_cells ps)
      row_matches = matches_from_drawing (solid_drawing (row_cells ps)) is (row_cells ps) (λ h shows. refl)

      -- each view shows something of it
      pub row_drawn : (v : View) → is_drawn_view g v ≡ true
      row_drawn v =
          let (right, up, begins) = solid_begins (row_cells ps) row_matches.0 v in
          let (h, of, drawn, left) = begins.at_left in
          shown_drawn (solid_drawing (row_cells ps)) is g grid v (h, of, drawn)

      -- the two columns of grid cells beside a grid segment are equal
      abbrev pub HasEqualColumns : View → Bool → Cell → Type 0
      HasEqualColumns v upright n = (k : ℤ)
          → full_at ps row (placed (frame_of v).away.axis k n) ≡ full_at ps row (placed (frame_of v).away.axis k (cell_before (axis_across v upright) n))

      -- then so are the two columns of unit cells beside its first unit segment
      equal_units : (v : View) (upright : Bool) (n : Cell) → HasEqualColumns v upright n
          → is_below (length ticks_at) (coordinate (axis_across v upright) n) ≡ true → is_below (length ticks_at) (coordinate (axis_along v upright) n) ≡ true
          → (i j k : ℤ) → i ≡ member_of ticks_at (coordinate (axis_along v upright) n) → j ≡ member_of ticks_at (coordinate (axis_across v upright) n)
          → is_full (row_cells ps) (cell_in (frame_of v) upright i j k) ≡ is_full (row_cells ps) (cell_in (frame_of v) upright i (j -ℤ pos 1) k)
      equal_units v upright n equal at_line at_cell i j k e f =
          let z = told_somewhere (cell_on (frame_of v).away k) in
          let first = subst (IsTold ps (part_at ps (coordinate (axis_along v upright) n))) (sym e) (told_at_tick _ at_cell) in
          let line = subst (IsTold ps (part_at ps (coordinate (axis_across v upright) n))) (sym f) (told_at_tick _ at_line) in
          let before = subst (λ w. IsTold ps (part_at ps (coordinate (axis_across v upright) n -ℤ pos 1)) (w -ℤ pos 1)) (sym f) (told_before_tick _ at_line) in
          sym (full_in_cell v upright n i j k z.0 first line z.1) ∙ equal z.0
          ∙ full_in_cell v upright (cell_before (axis_across v upright) n) i (j -ℤ pos 1) k z.0
          (subst (λ w. IsTold ps (part_at ps w) i) (sym (kept_along v upright n)) first)
          (subst (λ w. IsTold ps (part_at ps w) (j -ℤ pos 1)) (sym (placed_at (axis_across v upright) _ n)) before) z.1

      blank_unit : (v : View) (upright : Bool) (n : Cell) → HasEqualColumns v upright n
          → is_below (length ticks_at) (coordinate (axis_across v upright) n) ≡ true → is_below (length ticks_at) (coordinate (axis_along v upright) n) ≡ true
          → (i j : ℤ) → i ≡ member_of ticks_at (coordinate (axis_along v upright) n) → j ≡ member_of ticks_at (coordinate (axis_across v upright) n)
          → solid_drawing (row_cells ps) (segment_at v upright i j) ≡ Blank
      blank_unit v true n equal at_line at_cell i j e f =
          let h : Segment = segment_at v true i j in
          one_style (frame_of v) (is_full (row_cells ps)) h _ Blank (drawn_style_drawn (frame_of v) (views_are_frames v) (row_cells ps) h)
          (equal_columns (frame_of v) (views_are_frames v) (is_full (row_cells ps)) h (λ k. equal_units v true n equal at_line at_cell i j k e f))
      blank_unit v false n equal at_line at_cell i j e f =
          let h : Segment = segment_at v false i j in
          one_style (frame_of v) (is_full (row_cells ps)) h _ Blank (drawn_style_drawn (frame_of v) (views_are_frames v) (row_cells ps) h)
          (equal_columns (frame_of v) (views_are_frames v) (is_full (row_cells ps)) h (λ k. equal_units v false n equal at_line at_cell i j k e f))

      -- so the grid segment is blank
      blank_style : (v : View) (upright : Bool) (n : Cell) → HasEqualColumns v upright n → (line cell : ℤ)
          → line ≡ coordinate (axis_across v upright) n → cell ≡ coordinate (axis_along v upright) n → grid_style g v upright line cell ≡ Blank
      blank_style v upright n equal (negsuc line) cell e f = refl
      blank_style v upright n equal (pos line) (negsuc cell) e f = refl
      blank_style v upright n equal (pos line) (pos cell) e f = elim (cases_lt lines line) as (λ _. grid_style g v upright (pos line) (pos cell) ≡ Blank) [
        | inl off ↦ sym (blank_off_grid line lines cell cells _ (inl off))
        | inr on ↦ elim (cases_lt cell cells) as (λ _. grid_style g v upright (pos line) (pos cell) ≡ Blank) [
          | inl less ↦ (let at_line : line < length ticks_at = omega (arith, sizes_are (axis_across v upright), sizes_are (axis_along v upright)) in
              let at_cell : cell < length ticks_at = omega (arith, sizes_are (axis_along v upright)) in
              grid_style-drawing (solid_drawing (row_cells ps)) g grid.styles v upright line cell
              (subst (λ ws. line < length ws) (sym (same (axis_across v upright))) at_line) less
              ∙ blank_unit v upright n equal (ap (is_below (length ticks_at)) (sym e) ∙ lt-ltb line (length ticks_at) at_line)
              (ap (is_below (length ticks_at)) (sym f) ∙ lt-ltb cell (length ticks_at) at_cell) _ _
              ((λ t. member (same (axis_along v upright) t) cell) ∙ ap (member_of ticks_at) f)
              ((λ t. member (same (axis_across v upright) t) line) ∙ ap (member_of ticks_at) e))
          | inr most ↦ sym (blank_off_grid line lines cell cells _ (inr most))
        ]
      ]
        where
          lines : ℕ
          lines = grid_sizes g (axis_across v upright)

          cells : ℕ
          cells = grid_sizes g (axis_along v upright)

      -- A grid segment with equal columns of grid cells beside it isn't drawn.
      pub undrawn : (v : View) (upright : Bool) (n : Cell) → HasEqualColumns v upright n → is_drawn_from g v upright n ≡ false
      undrawn v upright n equal = ap (λ style. not (is_blank_style style)) (blank_style v upright n equal _ _ refl refl)
