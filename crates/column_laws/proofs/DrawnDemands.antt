-- A line can be met exactly where some cells that agree with what is known draw it.
use Rattle.std.proofs.Common.{◌≡◌, ◌↔◌, Bool, true, false, ◌&&◌, ℕ, List, filter, ℤ, pos, negsuc, neg_ℤ, ◌+ℤ◌, ◌-ℤ◌, Option, Some, None, if◌then◌else◌, refl, ap, sym, subst, ◌∙◌, arith}
use Rattle.std.specs.Ordering.{int_eq}
use Rattle.std.proofs.lemmas.Bool.{and_from, and_parts, both_ways, false_from_ne_true}
use Rattle.std.proofs.lemmas.Bool.Decides.{Decides-int_eq}
use Rattle.std.proofs.lemmas.Int.{ints}
use Rattle.std.proofs.lemmas.Option.{none-some}
use Rattle.solid_model.specs.declared.cell.Axis.{Axis}
use Rattle.solid_model.specs.declared.cell.Axis.TheVariants.{X, Y, Z}
use Rattle.solid_model.specs.declared.cell.Cell.{Cell}
use Rattle.solid_model.specs.declared.frame.Direction.{Direction}
use Rattle.solid_model.specs.declared.frame.Frame.{Frame}
use Rattle.solid_model.specs.declared.line_id.LineId.{LineId}
use Rattle.solid_model.specs.declared.segment.Segment.{Segment}
use Rattle.solid_model.specs.declared.segment.Style.{Style}
use Rattle.solid_model.specs.Blocks.{ProblemParts}
use Rattle.solid_model.specs.Boxes.{place_of}
use Rattle.solid_model.specs.Cells.{coordinate, is_full}
use Rattle.solid_model.specs.Columns.{cell_in, column_after, column_before, ColumnsDraw}
use Rattle.solid_model.specs.Demands.{known_cell, coordinate_on, box_cell_in, line_style, known_after, known_before, AgreesWith, CanBeMet}
use Rattle.solid_model.specs.Draws.{Draws}
use Rattle.solid_model.specs.Frames.{frame_of, along, across, cell_on, at_places}
use Rattle.lemmas.specs.Lists.{Member}
use Rattle.solid_model.specs.WalledBoxes.{Sizes, is_within}
use Rattle.solid_model.specs.Segments.{segment_at}
use Rattle.solid_model.specs.GridBox.{grid_sizes}
use Rattle.solid_model.proofs.BoxCells.{below-bounds, within-below}
use Rattle.solid_model.proofs.ColumnRule.{columns_drawn}
use Rattle.solid_model.proofs.Fullness.{is_full-member, member-is_full}
use Rattle.column_laws.proofs.SettledColumns.{IsEmptyBeyond}
use Rattle.lemmas.proofs.Lists.{member-filter, member-from_filter}
use Rattle.column_laws.proofs.MetLines.{AreSized, known_outside, column_beyond}
use Rattle.solid_model.proofs.Styles.{one_style}
use Rattle.solid_model.proofs.Unions.{cells_over, member-cells_over, range_from, member-range_from}
use Rattle.solid_model.proofs.Views.{views_are_frames, runs_forward, stands_forward, cell_at_its_places, places_of_cell_in}
use Rattle.column_laws.proofs.Stretched.{KeepsOrder, IsStretched, stretched_draw}
use Rattle.column_laws.specs.DrawnDemands.{Meets}
use Rattle.column_laws.proofs.SomeStyle.{some_style}

-- ---- depths of the box and depths of the view

-- how many depths nearer than the box's own the view's depths begin
abbrev before_box : ℕ → Direction → ℤ
before_box count d = if d.forward then pos 0 else pos count

one_coordinate : (forward : Bool) (count : ℕ) (k : ℤ) → (if forward then k else ((pos count -ℤ pos 1) -ℤ k))
    ≡ (if forward then (k -ℤ (if forward then pos 0 else pos count)) else (neg_ℤ (k -ℤ (if forward then pos 0 else pos count)) -ℤ pos 1))
one_coordinate true count k = omega (arith, ints)
one_coordinate false count k = omega (arith, ints)

forward_coordinate : (d : Direction) (count : ℕ) (k : ℤ) → d.forward ≡ true → coordinate_on count d k ≡ cell_on d k
forward_coordinate d count k e = ap (λ b. if b then k else ((pos count -ℤ pos 1) -ℤ k)) e ∙ sym (ap (λ b. if b then k else (neg_ℤ k -ℤ pos 1)) e)

-- columns that are moved draw the same
moved_draw : (by : ℤ) (a b : ℤ → Bool) (style : Style) → ColumnsDraw a b style → ColumnsDraw (λ k. a (k +ℤ by)) (λ k. b (k +ℤ by)) style
moved_draw by a b = stretched_draw Comes keeps a b (λ k. a (k +ℤ by)) (λ k. b (k +ℤ by)) (moved a) (moved b)
  where
    Comes : ℤ → ℤ → Type 0
    Comes k d = (k +ℤ by) ≡ d

    keeps : KeepsOrder Comes
    keeps k n d e p q l = omega (arith, ints, p, q, l)

    moved : (column : ℤ → Bool) → IsStretched Comes column (λ k. column (k +ℤ by))
    moved column = record {
      same = λ k d e. ap column e;
      from = λ k full. (k +ℤ by, refl);
      first = λ d full. (d -ℤ by, omega (arith, ints), λ n e. omega (arith, ints, e));
    }

moved_back : (k by : ℤ) → k ≡ ((k +ℤ by) -ℤ by)
moved_back k by = omega (arith, ints)

-- the columns beside a segment, by the cells in them
after_is : (f : Frame) (full : Cell → Bool) (l : LineId) (i j k : ℤ) → column_after f full (segment_at l.view l.upright i j) k ≡ full (cell_in f l.upright i j k)
after_is f full l i j k = by l.upright
  where
    by : (upright : Bool) → column_after f full (segment_at l.view upright i j) k ≡ full (cell_in f upright i j k)
    by true = refl
    by false = refl

before_is : (f : Frame) (full : Cell → Bool) (l : LineId) (i j k : ℤ)
    → column_before f full (segment_at l.view l.upright i j) k ≡ full (cell_in f l.upright i (j -ℤ pos 1) k)
before_is f full l i j k = by l.upright
  where
    by : (upright : Bool) → column_before f full (segment_at l.view upright i j) k ≡ full (cell_in f upright i (j -ℤ pos 1) k)
    by true = refl
    by false = refl

module _ (p : ProblemParts) (sized : AreSized p) (known : ℕ → Option Bool) (l : LineId) where
  abbrev frame : Frame
  frame = frame_of l.view

  abbrev sizes : Sizes
  sizes = grid_sizes p.grid

  abbrev depths : ℕ
  depths = sizes frame.away.axis

  abbrev moved_by : ℤ
  moved_by = before_box depths frame.away

  abbrev segment : Segment
  segment = segment_at l.view l.upright (pos l.cell) (pos l.at)

  -- the cell at a depth of the box, and at one of the view
  abbrev box_cell : ℤ → ℤ → Cell
  box_cell j k = box_cell_in sizes frame l.upright (pos l.cell) j k

  abbrev view_cell : ℤ → ℤ → Cell
  view_cell j k = cell_in frame l.upright (pos l.cell) j k

  one_cell : (j k : ℤ) → box_cell j k ≡ view_cell j (k -ℤ moved_by)
  one_cell j k =
      let way = along frame l.upright in
      let beside = across frame l.upright in
      let i = forward_coordinate way (sizes way.axis) (pos l.cell) (runs_forward l.view l.upright) in
      let n = forward_coordinate beside (sizes beside.axis) j (stands_forward l.view l.upright) in
      let m = one_coordinate frame.away.forward depths k in
      λ t. at_places way.axis (i t) beside.axis (n t) frame.away.axis (m t)

  cell_moved : (j k : ℤ) → box_cell j (k +ℤ moved_by) ≡ view_cell j k
  cell_moved j k = one_cell j (k +ℤ moved_by) ∙ ap (view_cell j) (sym (moved_back k moved_by))

  -- what two columns of the box draw, a solid draws whose columns they are
  drawn_by : (s : List Cell) (after before : ℤ → Bool) → ((k : ℤ) → after (k +ℤ moved_by) ≡ is_full s (view_cell (pos l.at) k))
      → ((k : ℤ) → before (k +ℤ moved_by) ≡ is_full s (view_cell (pos l.at -ℤ pos 1) k)) → (style : Style) → ColumnsDraw after before style
      → Draws frame (is_full s) segment style
  drawn_by s after before is_after is_before style draws = columns_drawn frame (views_are_frames l.view) s segment style
      (subst (λ (c : ℤ → Bool). ColumnsDraw c (column_before frame (is_full s) segment) style)
      (λ t k. (is_after k ∙ sym (after_is frame (is_full s) l (pos l.cell) (pos l.at) k)) t)
      (subst (λ (c : ℤ → Bool). ColumnsDraw (λ k. after (k +ℤ moved_by)) c style)
      (λ t k. (is_before k ∙ sym (before_is frame (is_full s) l (pos l.cell) (pos l.at) k)) t)
      (moved_draw moved_by after before style draws)))

  -- ---- from cells to columns

  module _ (s : List Cell) (agrees : (n : Cell) (value : Bool) → known_cell p.blocks known n ≡ Some value → is_full s n ≡ value) where
    abbrev column : ℤ → ℤ → Bool
    column j k = is_full s (box_cell j k)

    beyond : (j : ℤ) → IsEmptyBeyond depths (λ k. Some (column j k))
    beyond j = let empty = column_beyond p sized known l j in record {
      nearer = λ k. ap Some (agrees (box_cell j (negsuc k)) false (empty.nearer k));
      farther = λ k m. ap Some (agrees (box_cell j (pos k)) false (empty.farther k m));
    }

    met_by_cells : Draws frame (is_full s) segment (line_style p.grid l) → CanBeMet p known l
    met_by_cells drawn = by (some_style (column (pos l.at)) (column (pos l.at -ℤ pos 1)) depths (beyond (pos l.at)) (beyond (pos l.at -ℤ pos 1)))
      where
        by : (style : Style) × ColumnsDraw (column (pos l.at)) (column (pos l.at -ℤ pos 1)) style → CanBeMet p known l
        by (style, draws) =
            let same = one_style frame (is_full s) segment style (line_style p.grid l)
            (drawn_by s (column (pos l.at)) (column (pos l.at -ℤ pos 1)) (λ k. ap (is_full s) (cell_moved (pos l.at) k))
            (λ k. ap (is_full s) (cell_moved (pos l.at -ℤ pos 1) k)) style draws) drawn in (
              column (pos l.at),
              column (pos l.at -ℤ pos 1),
              (λ k value e. agrees (box_cell (pos l.at) k) value e),
              (λ k value e. agrees (box_cell (pos l.at -ℤ pos 1) k) value e),
              subst (ColumnsDraw (column (pos l.at)) (column (pos l.at -ℤ pos 1))) same draws,
            )

  -- ---- from columns to cells

  module _ (after before : ℤ → Bool) (agrees : AgreesWith (known_after p.grid (known_cell p.blocks known) l) after)
      (agrees_too : AgreesWith (known_before p.grid (known_cell p.blocks known) l) before) where
    -- the cell stands in the column at j
    abbrev stands_at : ℤ → Cell → Bool
    stands_at j n = int_eq (place_of (along frame l.upright) n) (pos l.cell) && int_eq (place_of (across frame l.upright) n) j

    -- its depth in the box
    abbrev depth_of : Cell → ℤ
    depth_of n = place_of frame.away n +ℤ moved_by

    -- where nothing is known a cell beside no column is empty
    abbrev known_or_empty : Option Bool → Bool
    known_or_empty None = false
    known_or_empty (Some value) = value

    abbrev filled : Cell → Bool
    filled n = if stands_at (pos l.at) n then after (depth_of n)
        else (if stands_at (pos l.at -ℤ pos 1) n then before (depth_of n) else known_or_empty (known_cell p.blocks known n))

    across_at : (j : ℤ) (n : Cell) → stands_at j n ≡ true → place_of (across frame l.upright) n ≡ j
    across_at j n at = (Decides-int_eq (place_of (across frame l.upright) n) j).0
        (and_parts (int_eq (place_of (along frame l.upright) n) (pos l.cell)) (int_eq (place_of (across frame l.upright) n) j) at).1

    in_column : (j : ℤ) (n : Cell) → stands_at j n ≡ true → n ≡ box_cell j (depth_of n)
    in_column j n at =
        let both = and_parts (int_eq (place_of (along frame l.upright) n) (pos l.cell)) (int_eq (place_of (across frame l.upright) n) j) at in
        let first = (Decides-int_eq (place_of (along frame l.upright) n) (pos l.cell)).0 both.0 in
        let second = across_at j n at in
        let back = moved_back (place_of frame.away n) moved_by in
        sym (cell_at_its_places frame (views_are_frames l.view) l.upright n)
        ∙ (λ t. cell_in frame l.upright (first t) (second t) (back t))
        ∙ sym (one_cell j (depth_of n))

    filled_agrees : (n : Cell) (value : Bool) → known_cell p.blocks known n ≡ Some value → filled n ≡ value
    filled_agrees n value e = by (stands_at (pos l.at) n) (stands_at (pos l.at -ℤ pos 1) n) refl refl
      where
        other : (known : Option Bool) → known ≡ Some value → known_or_empty known ≡ value
        other None e = absurd (none-some value e)
        other (Some v) e = cc

        by : (x y : Bool) → stands_at (pos l.at) n ≡ x → stands_at (pos l.at -ℤ pos 1) n ≡ y
            → (if x then after (depth_of n) else (if y then before (depth_of n) else known_or_empty (known_cell p.blocks known n))) ≡ value
        by true y at beside = agrees (depth_of n) value (ap (known_cell p.blocks known) (sym (in_column (pos l.at) n at)) ∙ e)
        by false true at beside = agrees_too (depth_of n) value (ap (known_cell p.blocks known) (sym (in_column (pos l.at -ℤ pos 1) n beside)) ∙ e)
        by false false at beside = other (known_cell p.blocks known n) e

    -- all cells of the box
    abbrev box : List Cell
    box = cells_over (range_from (pos 0) (sizes X)) (range_from (pos 0) (sizes Y)) (range_from (pos 0) (sizes Z))

    in_box : (n : Cell) → is_within sizes n ≡ true → Member box n
    in_box n within = member-cells_over (range_from (pos 0) (sizes X)) (range_from (pos 0) (sizes Y)) (range_from (pos 0) (sizes Z)) n (at X) (at Y) (at Z)
      where
        at : (a : Axis) → Member (range_from (pos 0) (sizes a)) (coordinate a n)
        at a = let b = below-bounds (sizes a) (coordinate a n) (within-below sizes n within a) in
            member-range_from (sizes a) (pos 0) (coordinate a n) b.0 (let m = b.1 in omega (arith, ints))

    outside_empty : (n : Cell) → is_within sizes n ≡ false → filled n ≡ false
    outside_empty n out = filled_agrees n false (known_outside p.blocks known n
        (subst (λ (others : Sizes). is_within others n ≡ false) (λ t a. sym (sized a) t) out))

    -- the solid of those that are filled
    abbrev cells : List Cell
    cells = filter filled box

    is_filled : (n : Cell) → is_full cells n ≡ filled n
    is_filled n = by (is_within sizes n) refl (filled n) refl
      where
        empty : filled n ≡ false → is_full cells n ≡ false
        empty none = false_from_ne_true _ (λ full. both_ways _ none (member-from_filter filled box n (is_full-member cells n full)).1)

        by : (w : Bool) → is_within sizes n ≡ w → (b : Bool) → filled n ≡ b → is_full cells n ≡ b
        by w within false none = empty none
        by true within true some = member-is_full cells n (member-filter filled box n (in_box n within) some)
        by false out true some = absurd (both_ways _ (outside_empty n out) some)

    filled_at : (j : ℤ) (column : ℤ → Bool) → ((n : Cell) → stands_at j n ≡ true → filled n ≡ column (depth_of n))
        → (k : ℤ) → column (k +ℤ moved_by) ≡ is_full cells (view_cell j k)
    filled_at j column own k =
        let places = places_of_cell_in frame (views_are_frames l.view) l.upright (pos l.cell) j k in
        let there = and_from _ _ ((Decides-int_eq _ _).1 places.along_is) ((Decides-int_eq _ _).1 places.across_is) in
        sym (is_filled (view_cell j k) ∙ own (view_cell j k) there ∙ ap (λ z. column (z +ℤ moved_by)) places.away_is)

    own_after : (n : Cell) → stands_at (pos l.at) n ≡ true → filled n ≡ after (depth_of n)
    own_after n at = ap (λ x. if x then after (depth_of n)
        else (if stands_at (pos l.at -ℤ pos 1) n then before (depth_of n) else known_or_empty (known_cell p.blocks known n))) at

    -- no cell stands in both columns
    apart : (n : Cell) → stands_at (pos l.at -ℤ pos 1) n ≡ true → stands_at (pos l.at) n ≡ false
    apart n beside = false_from_ne_true (stands_at (pos l.at) n) (λ at.
        let first = across_at (pos l.at) n at in
        let second = across_at (pos l.at -ℤ pos 1) n beside in
        omega (arith, ints, first, second))

    own_before : (n : Cell) → stands_at (pos l.at -ℤ pos 1) n ≡ true → filled n ≡ before (depth_of n)
    own_before n beside = ap (λ x. if x then after (depth_of n)
        else (if stands_at (pos l.at -ℤ pos 1) n then before (depth_of n) else known_or_empty (known_cell p.blocks known n))) (apart n beside)
        ∙ ap (λ y. if y then before (depth_of n) else known_or_empty (known_cell p.blocks known n)) beside

    cells_meet : ColumnsDraw after before (line_style p.grid l) → (s : List Cell) × Meets p known l s
    cells_meet draws = (
      cells,
      (
        (λ n value e. is_filled n ∙ filled_agrees n value e),
        drawn_by cells after before (filled_at (pos l.at) after own_after) (filled_at (pos l.at -ℤ pos 1) before own_before) (line_style p.grid l) draws,
      ),
    )

  pub met_by_drawing : CanBeMet p known l ↔ ((s : List Cell) × Meets p known l s)
  met_by_drawing = (
    (λ (after, before, agrees, agrees_too, draws). cells_meet after before agrees agrees_too draws),
    (λ (s, (agrees, drawn)). met_by_cells s agrees drawn),
  )
