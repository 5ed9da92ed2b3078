-- The unit columns beside a grid's segment are the columns of grid cells beside it, stretched, so a union of chosen grid cells
-- draws on the segment what those columns draw.
use Rattle.std.proofs.Common.{◌≡◌, inl, inr, ⊎_elim, Bool, true, false, ◌&&◌, ◌==◌, ℕ, zero, suc, ◌+◌, ◌-◌, ◌<◌, List, length, slice_index_or, ℤ, pos, negsuc, neg_ℤ, ◌-ℤ◌, ◌≤ℤ◌, ◌<ℤ◌, IsTrue, if◌then◌else◌, refl, ap, sym, subst, ◌∙◌, arith}
use Rattle.std.proofs.lemmas.Bool.{false≢true, both_ways, and_parts, cases_lt, lt-ltb, ltb-true}
use Rattle.std.proofs.lemmas.Int.{ints}
use Rattle.std.proofs.lemmas.Nat.Bits.{bit_at-zero}
use Rattle.solid_model.specs.declared.cell.Axis.{Axis}
use Rattle.solid_model.specs.declared.cell.Axis.TheVariants.{X, Y, Z}
use Rattle.solid_model.specs.declared.cell.Cell.{Cell}
use Rattle.solid_model.specs.declared.frame.Direction.{Direction}
use Rattle.solid_model.specs.declared.frame.Frame.{Frame}
use Rattle.solid_model.specs.declared.frame.View.{View}
use Rattle.solid_model.specs.declared.segment.Style.{Style}
use Rattle.solid_model.specs.Cells.{coordinate, is_full}
use Rattle.solid_model.specs.Columns.{cell_in, ColumnsDraw}
use Rattle.solid_model.specs.DrawnStyle.{solid_drawing}
use Rattle.solid_model.specs.Edges.{second_axis, third_axis, AreAcross}
use Rattle.solid_model.specs.Frames.{IsFrame, frame_of, along, across, cell_on}
use Rattle.solid_model.specs.Grid.{Coordinates, GridCell, is_in_gap, LiesInGridCell, gaps_along, grid_cell_place, IsUnionOf}
use Rattle.lemmas.specs.Lists.{Ascends}
use Rattle.solid_model.specs.Segments.{segment_at, across_of, along_of}
use Rattle.solid_model.proofs.ColumnRule.{columns_drawn}
use Rattle.solid_model.proofs.InGrid.{gap_or_none}
use Rattle.solid_model.proofs.Styles.{one_style, drawn_style_drawn}
use Rattle.solid_model.proofs.Views.{views_are_frames, across_each, each_axis, across_along, across_next, across_turned, cell_on_twice, places_of_cell_in, runs_forward, stands_forward, forward_cell}
use Rattle.solid_model.specs.PerAxis.{by_axis, numbered}
use Rattle.lemmas.specs.Bits.{bits}
use Rattle.solid_model.specs.GridPlaces.{number_on, grid_cell_in}
use Rattle.column_laws.specs.GridColumns.{grid_column}
use Rattle.column_laws.specs.GridPanels.{IsColumnBeside, AreColumnsBeside}
use Rattle.solid_model.proofs.Gaps.{member, lies_in, gaps_keep_order, begins_gap, ends_gap, last_in_none, before_first_in_none}
use Rattle.column_laws.proofs.Stretched.{KeepsOrder, IsStretched, stretched_draw}

-- ---- axes and frames

-- the grid cell with three numbers has those numbers
record HasNumbers (a b c : Axis) (i j k : ℕ) (n : GridCell) : Type 0 where
  first : n a ≡ i
  second : n b ≡ j
  third : n c ≡ k

numbers_at : (i j k : ℕ) (a b c : Axis) → AreAcross a b c → HasNumbers a b c i j k (numbered a i (numbered b j (numbered c k (by_axis 0 0 0))))
numbers_at i j k = across_each (λ a b c. HasNumbers a b c i j k (numbered a i (numbered b j (numbered c k (by_axis 0 0 0))))) inorder turned
  where
    inorder : (a : Axis) → HasNumbers a (second_axis a) (third_axis a) i j k (numbered a i (numbered (second_axis a) j (numbered (third_axis a) k (by_axis 0 0 0))))
    inorder X = record { first = refl; second = refl; third = refl }
    inorder Y = record { first = refl; second = refl; third = refl }
    inorder Z = record { first = refl; second = refl; third = refl }

    turned : (a : Axis) → HasNumbers a (third_axis a) (second_axis a) i j k (numbered a i (numbered (third_axis a) j (numbered (second_axis a) k (by_axis 0 0 0))))
    turned X = record { first = refl; second = refl; third = refl }
    turned Y = record { first = refl; second = refl; third = refl }
    turned Z = record { first = refl; second = refl; third = refl }

-- forward, places are numbers
forward_number : (sizes : Axis → ℕ) (d : Direction) (k : ℕ) → d.forward ≡ true → number_on sizes d k ≡ k
forward_number sizes d k e = ap (λ b. if b then k else (sizes d.axis - (k + 1))) e

-- ---- depths

-- the unit depth k lies in the gap that is depth d of the grid
abbrev pub ComesFrom : Coordinates → Direction → ℤ → ℤ → Type 0
ComesFrom coordinates d k (pos n) = (n < gaps_along coordinates d.axis) × IsTrue (is_in_gap (coordinates d.axis) (number_on (gaps_along coordinates) d n) (cell_on d k))
ComesFrom coordinates d k (negsuc n) = ⊥

module _ (coordinates : Coordinates) (ordered : (a : Axis) → Ascends ◌<ℤ◌ (coordinates a)) where
  -- farther unit depths come from farther depths of the grid
  depths_ordered : (forward : Bool) (a : Axis) → KeepsOrder (ComesFrom coordinates (record { axis = a; forward = forward }))
  depths_ordered true a k n (pos d) (pos e) at from l =
      let h = gaps_keep_order (coordinates a) (ordered a) d e k n at.1 from.1 (omega (arith, ints)) in h
  depths_ordered false a k n (pos d) (pos e) at from l =
      let c = gaps_along coordinates a in
      let m : c - (e + 1) < c - (d + 1) = omega (arith, ints, at.0, from.0) in
      let h = gaps_keep_order (coordinates a) (ordered a) (c - (e + 1)) (c - (d + 1)) (neg_ℤ n -ℤ pos 1) (neg_ℤ k -ℤ pos 1) from.1 at.1 m in
      omega (arith, ints)
  depths_ordered forward a k n (negsuc d) e at from l = absurd at
  depths_ordered forward a k n (pos d) (negsuc e) at from l = absurd from

  -- each depth of the grid has a first unit depth
  first_depth : (forward : Bool) (a : Axis) (d : ℕ) → d < gaps_along coordinates a
      → (k : ℤ) × ComesFrom coordinates (record { axis = a; forward = forward }) k (pos d)
      × ((n : ℤ) → ComesFrom coordinates (record { axis = a; forward = forward }) n (pos d) → k ≤ℤ n)
  first_depth true a d l =
      (member (coordinates a) d, (l, begins_gap (coordinates a) (ordered a) d (omega arith)), λ n at. (lies_in (coordinates a) d n at.1).low)
  first_depth false a d l =
      let g : ℕ = gaps_along coordinates a - (d + 1) in
      let end : ℤ = member (coordinates a) (suc g) in
      let back : neg_ℤ (neg_ℤ end) -ℤ pos 1 ≡ end -ℤ pos 1 = omega (arith, ints) in (
        neg_ℤ end,
        (l, subst (λ z. is_in_gap (coordinates a) g z ≡ true) (sym back) (ends_gap (coordinates a) (ordered a) g (omega arith))),
        λ n at. let h = (lies_in (coordinates a) g (neg_ℤ n -ℤ pos 1) at.1).high in omega (arith, ints),
      )

  -- a gap is that of some depth of the grid
  depth_of_gap : (forward : Bool) (a : Axis) (k : ℤ) (g : ℕ) → is_in_gap (coordinates a) g (cell_on (record { axis = a; forward = forward }) k) ≡ true
      → (d : ℤ) × ComesFrom coordinates (record { axis = a; forward = forward }) k d
  depth_of_gap true a k g e = let at = lies_in (coordinates a) g k e in (pos g, (omega (arith, at.within), e))
  depth_of_gap false a k g e =
      let c = gaps_along coordinates a in
      let at = lies_in (coordinates a) g (neg_ℤ k -ℤ pos 1) e in
      let again : c - ((c - (g + 1)) + 1) ≡ g = omega (arith, at.within) in
      (pos (c - (g + 1)), (omega (arith, at.within), subst (λ m. is_in_gap (coordinates a) m (neg_ℤ k -ℤ pos 1) ≡ true) (sym again) e))

-- an empty column has no full depth
pub empty_bits : (k : ℤ) → bits 0 k ≡ false
empty_bits (pos k) = ap (λ b. b == 1) (bit_at-zero k)
empty_bits (negsuc k) = refl

-- a full depth of a column of grid cells is a depth of the grid
depth_within : (f : Frame) (sizes : Axis → ℕ) (chosen : List Bool) (i j k : ℕ) → grid_column f sizes chosen i j (pos k) ≡ true → k < sizes f.away.axis
depth_within f sizes chosen i j k e = ltb-true k (sizes f.away.axis) (and_parts _ _ e).0

-- the numbers of the grid cell at places along and across the segments of a kind
module _ (f : Frame) (is : IsFrame f) (sizes : Axis → ℕ) where
  cell_numbers : (i j k : ℕ) → HasNumbers f.right.axis f.up.axis f.away.axis (number_on sizes f.right i) (number_on sizes f.up j) (number_on sizes f.away k) (grid_cell_in f sizes i j k)
  cell_numbers i j k = numbers_at _ _ _ f.right.axis f.up.axis f.away.axis (across_turned _ _ _ (across_next _ _ _ is))

  number_along : (upright : Bool) → (along f upright).forward ≡ true → (start line k : ℕ)
      → grid_cell_in f sizes (across_of upright line start) (along_of upright line start) k (along f upright).axis ≡ start
  number_along true runs start line k = (cell_numbers line start k).second ∙ forward_number sizes f.up start runs
  number_along false runs start line k = (cell_numbers start line k).first ∙ forward_number sizes f.right start runs

  number_across : (upright : Bool) → (across f upright).forward ≡ true → (start line k : ℕ)
      → grid_cell_in f sizes (across_of upright line start) (along_of upright line start) k (across f upright).axis ≡ line
  number_across true stands start line k = (cell_numbers line start k).first ∙ forward_number sizes f.right line stands
  number_across false stands start line k = (cell_numbers start line k).second ∙ forward_number sizes f.up line stands

-- ---- columns beside a segment

module _ (coordinates : Coordinates) (ordered : (a : Axis) → Ascends ◌<ℤ◌ (coordinates a)) (chosen : List Bool) (full : Cell → Bool) (union : IsUnionOf coordinates chosen full)
    (f : Frame) (is : IsFrame f) (upright : Bool) (runs : (along f upright).forward ≡ true) (stands : (across f upright).forward ≡ true) where
  abbrev sizes : Axis → ℕ
  sizes = gaps_along coordinates

  abbrev comes : ℤ → ℤ → Type 0
  comes = ComesFrom coordinates f.away

  -- the cell at depth k beside a segment's first unit segment, with its coordinates
  record StandsAt (i j k : ℤ) (c : Cell) : Type 0 where
    on_stretch : coordinate (along f upright).axis c ≡ i
    beside : coordinate (across f upright).axis c ≡ j
    deep : coordinate f.away.axis c ≡ cell_on f.away k

  stands_at : (i j k : ℤ) → StandsAt i j k (cell_in f upright i j k)
  stands_at i j k =
      let at = places_of_cell_in f is upright i j k in
      record {
        on_stretch = sym (forward_cell (along f upright) _ runs) ∙ at.along_is;
        beside = sym (forward_cell (across f upright) _ stands) ∙ at.across_is;
        deep = sym (cell_on_twice f.away _) ∙ ap (cell_on f.away) at.away_is;
      }

  module _ (start line : ℕ) (i j : ℤ) (on_stretch : is_in_gap (coordinates (along f upright).axis) start i ≡ true) where
    abbrev right : ℕ
    right = across_of upright line start

    abbrev up : ℕ
    up = along_of upright line start

    -- the unit column at j
    abbrev unit_column : ℤ → Bool
    unit_column k = full (cell_in f upright i j k)

    -- between two lines, it is the column of grid cells there
    module _ (beside : is_in_gap (coordinates (across f upright).axis) line j ≡ true) where
      -- the cell lies in the grid cell at the depth that it comes from
      lies_at_depth : (k : ℤ) (d : ℕ) → comes k (pos d) → LiesInGridCell coordinates (grid_cell_in f sizes right up d) (cell_in f upright i j k)
      lies_at_depth k d at =
          let c : Cell = cell_in f upright i j k in
          let n : GridCell = grid_cell_in f sizes right up d in
          let stand = stands_at i j k in
          each_axis (λ a. is_in_gap (coordinates a) (n a) (coordinate a c) ≡ true) (along f upright).axis (across f upright).axis f.away.axis (across_along f is upright)
          ((λ t. is_in_gap (coordinates (along f upright).axis) (number_along f is sizes upright runs start line d t) (stand.on_stretch t)) ∙ on_stretch)
          ((λ t. is_in_gap (coordinates (across f upright).axis) (number_across f is sizes upright stands start line d t) (stand.beside t)) ∙ beside)
          ((λ t. is_in_gap (coordinates f.away.axis) ((cell_numbers f is sizes right up d).third t) (stand.deep t)) ∙ at.1)

      same_depth : (k d : ℤ) → comes k d → unit_column k ≡ grid_column f sizes chosen right up d
      same_depth k (pos d) at =
          union.inside (grid_cell_in f sizes right up d) (cell_in f upright i j k) (lies_at_depth k d at)
          ∙ ap (λ b. b && slice_index_or chosen (grid_cell_place coordinates (grid_cell_in f sizes right up d)) false) (sym (lt-ltb d (sizes f.away.axis) at.0))
      same_depth k (negsuc d) at = absurd at

      depth_of : (k : ℤ) → unit_column k ≡ true → (d : ℤ) × comes k d
      depth_of k e = ⊎_elim
          (λ gap. depth_of_gap coordinates ordered f.away.forward f.away.axis k gap.0 gap.1)
          (λ none. absurd (both_ways (unit_column k) (union.outside (cell_in f upright i j k) (λ lies.
          let gap = lies f.away.axis in
          none (gap.0, subst (λ z. is_in_gap (coordinates f.away.axis) gap.0 z ≡ true) (stands_at i j k).deep gap.1))) e))
          (gap_or_none (coordinates f.away.axis) (ordered f.away.axis) (cell_on f.away k))

      first_of : (d : ℤ) → grid_column f sizes chosen right up d ≡ true → (k : ℤ) × comes k d × ((n : ℤ) → comes n d → k ≤ℤ n)
      first_of (pos d) e = first_depth coordinates ordered f.away.forward f.away.axis d (depth_within f sizes chosen right up d e)
      first_of (negsuc d) e = absurd (false≢true e)

      stretched_between : (n : ℕ) → ((k : ℤ) → bits n k ≡ grid_column f sizes chosen right up k) → IsStretched comes (bits n) unit_column
      stretched_between n column = record {
        same = λ k d at. same_depth k d at ∙ sym (column d);
        from = depth_of;
        first = λ d e. first_of d (sym (column d) ∙ e);
      }

    -- outside the grid it is empty
    module _ (outside : (n : ℕ) → is_in_gap (coordinates (across f upright).axis) n j ≡ true → ⊥) where
      never_full : (k : ℤ) → unit_column k ≡ false
      never_full k = union.outside (cell_in f upright i j k) (λ lies.
          let gap = lies (across f upright).axis in
          outside gap.0 (subst (λ z. is_in_gap (coordinates (across f upright).axis) gap.0 z ≡ true) (stands_at i j k).beside gap.1))

      stretched_outside : (n : ℕ) → n ≡ 0 → IsStretched comes (bits n) unit_column
      stretched_outside n none = record {
        same = λ k d at. never_full k ∙ sym (empty d);
        from = λ k e. absurd (both_ways (unit_column k) (never_full k) e);
        first = λ d e. absurd (both_ways (bits n d) (empty d) e);
      }
        where
          empty : (d : ℤ) → bits n d ≡ false
          empty d = ap (λ m. bits m d) none ∙ empty_bits d

-- ---- what the columns draw

module _ (coordinates : Coordinates) (ordered : (a : Axis) → Ascends ◌<ℤ◌ (coordinates a)) (chosen : List Bool) (s : List Cell) (union : IsUnionOf coordinates chosen (is_full s))
    (v : View) (upright : Bool) (start line after before : ℕ)
    (beside : AreColumnsBeside (frame_of v) (gaps_along coordinates) chosen upright start line after before)
    (start_within : suc start < length (coordinates (along (frame_of v) upright).axis)) (line_within : line < length (coordinates (across (frame_of v) upright).axis)) where
  abbrev frame : Frame
  frame = frame_of v

  abbrev starts : List ℤ
  starts = coordinates (along frame upright).axis

  abbrev lines : List ℤ
  lines = coordinates (across frame upright).axis

  abbrev unit_at : ℤ → ℤ → Bool
  unit_at j k = is_full s (cell_in frame upright (member starts start) j k)

  on_stretch : is_in_gap starts start (member starts start) ≡ true
  on_stretch = begins_gap starts (ordered (along frame upright).axis) start start_within

  -- the column beside the line l is stretched to the unit column at a place between l and the next line
  stretched_beside : (l n : ℕ) (j : ℤ) → is_in_gap lines l j ≡ true → IsColumnBeside frame (gaps_along coordinates) chosen upright start l n
      → IsStretched (ComesFrom coordinates frame.away) (bits n) (unit_at j)
  stretched_beside l n j e column =
      let at = lies_in lines l j e in
      stretched_between coordinates ordered chosen (is_full s) union frame (views_are_frames v) upright (runs_forward v upright) (stands_forward v upright) start l (member starts start) j on_stretch e n
      (column.inside (omega (arith, at.within)))

  stretched_beyond : (n : ℕ) (j : ℤ) → ((m : ℕ) → is_in_gap lines m j ≡ true → ⊥) → n ≡ 0 → IsStretched (ComesFrom coordinates frame.away) (bits n) (unit_at j)
  stretched_beyond n j outside none =
      stretched_outside coordinates ordered chosen (is_full s) union frame (views_are_frames v) upright (runs_forward v upright) (stands_forward v upright) start line (member starts start) j on_stretch outside n none

  stretched_after : IsStretched (ComesFrom coordinates frame.away) (bits after) (unit_at (member lines line))
  stretched_after = elim (cases_lt (suc line) (length lines)) as (λ _. IsStretched (ComesFrom coordinates frame.away) (bits after) (unit_at (member lines line))) [
    | inl more ↦ stretched_beside line after (member lines line) (begins_gap lines (ordered (across frame upright).axis) line more) beside.after_is
    | inr last ↦ stretched_beyond after (member lines line) (last_in_none lines (ordered (across frame upright).axis) line (omega (arith, line_within)))
        (beside.after_is.outside (omega (arith, last)))
  ]

  stretched_before : (l : ℕ) → line ≡ l → IsStretched (ComesFrom coordinates frame.away) (bits before) (unit_at (member lines line -ℤ pos 1))
  stretched_before zero first =
      subst (λ m. IsStretched (ComesFrom coordinates frame.away) (bits before) (unit_at (member lines m -ℤ pos 1))) (sym first)
      (stretched_beyond before (member lines 0 -ℤ pos 1) (before_first_in_none lines (ordered (across frame upright).axis)) (beside.before_first first))
  stretched_before (suc l) next =
      subst (λ m. IsStretched (ComesFrom coordinates frame.away) (bits before) (unit_at (member lines m -ℤ pos 1))) (sym next)
      (stretched_beside l before (member lines (suc l) -ℤ pos 1) (ends_gap lines (ordered (across frame upright).axis) l (omega (arith, line_within))) (beside.before_is l next))

  -- the unit columns draw what the columns of grid cells draw
  unit_columns_draw : (style : Style) → ColumnsDraw (bits after) (bits before) style → ColumnsDraw (unit_at (member lines line)) (unit_at (member lines line -ℤ pos 1)) style
  unit_columns_draw = stretched_draw (ComesFrom coordinates frame.away) (depths_ordered coordinates ordered frame.away.forward frame.away.axis)
      (bits after) (bits before) (unit_at (member lines line)) (unit_at (member lines line -ℤ pos 1)) stretched_after (stretched_before line refl)

-- so the union draws on the segment what the columns beside it draw
pub segment_drawn : (coordinates : Coordinates) → ((a : Axis) → Ascends ◌<ℤ◌ (coordinates a)) → (chosen : List Bool) (s : List Cell) → IsUnionOf coordinates chosen (is_full s)
    → (v : View) (upright : Bool) (start line after before : ℕ) → AreColumnsBeside (frame_of v) (gaps_along coordinates) chosen upright start line after before
    → suc start < length (coordinates (along (frame_of v) upright).axis) → line < length (coordinates (across (frame_of v) upright).axis)
    → (style : Style) → ColumnsDraw (bits after) (bits before) style
    → style ≡ solid_drawing s (segment_at v upright (member (coordinates (along (frame_of v) upright).axis) start) (member (coordinates (across (frame_of v) upright).axis) line))
segment_drawn coordinates ordered chosen s union v true start line after before beside l m style draws =
    let f = frame_of v in
    let g = segment_at v true (member (coordinates f.up.axis) start) (member (coordinates f.right.axis) line) in
    one_style f (is_full s) g style _
    (columns_drawn f (views_are_frames v) s g style (unit_columns_draw coordinates ordered chosen s union v true start line after before beside l m style draws))
    (drawn_style_drawn f (views_are_frames v) s g)
segment_drawn coordinates ordered chosen s union v false start line after before beside l m style draws =
    let f = frame_of v in
    let g = segment_at v false (member (coordinates f.right.axis) start) (member (coordinates f.up.axis) line) in
    one_style f (is_full s) g style _
    (columns_drawn f (views_are_frames v) s g style (unit_columns_draw coordinates ordered chosen s union v false start line after before beside l m style draws))
    (drawn_style_drawn f (views_are_frames v) s g)
