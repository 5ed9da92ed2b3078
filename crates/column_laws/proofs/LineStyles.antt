-- The solid that a choice fills draws on each line what the columns beside it draw.
use Rattle.std.proofs.Common.{◌≡◌, Bool, nat_lt, ℕ, zero, suc, ◌<◌, ◌≤◌, List, length, ℤ, pos, negsuc, ◌-ℤ◌, Some, IsTrue, inl, inr, refl, ap, sym, subst, ◌∙◌, arith, ◌&&◌, true, false}
use Rattle.std.proofs.lemmas.Bool.{and_parts, cases_lt, ltb-true}
use Rattle.std.proofs.lemmas.Int.{ints}
use Rattle.solid_model.specs.declared.cell.Cell.{Cell}
use Rattle.solid_model.specs.declared.frame.Frame.{Frame}
use Rattle.solid_model.specs.declared.line_id.LineId.{LineId}
use Rattle.solid_model.specs.declared.segment.Segment.{Segment}
use Rattle.solid_model.specs.declared.segment.Style.{Style}
use Rattle.solid_model.specs.Blocks.{BlockNumbers, IsBlocksOf}
use Rattle.solid_model.specs.Cells.{is_full}
use Rattle.solid_model.specs.Choices.{cells_of_choice}
use Rattle.solid_model.specs.Columns.{ColumnsDraw}
use Rattle.solid_model.specs.Wire.{is_drawn_view}
use Rattle.solid_model.specs.Moved.{Shows}
use Rattle.solid_model.proofs.PseudoEdges.{view_drawn}
use Rattle.solid_model.specs.Demands.{has_line, line_style}
use Rattle.solid_model.specs.DrawnStyle.{solid_drawing}
use Rattle.solid_model.specs.Frames.{frame_of}
use Rattle.solid_model.specs.Grid.{IsUnionOf}
use Rattle.solid_model.specs.Matching.{Matches}
use Rattle.solid_model.specs.Panels.{GridParts, coordinates_of, IsGridOf}
use Rattle.solid_model.specs.Runs.{IsDrawing}
use Rattle.solid_model.specs.Segments.{segment_at}
use Rattle.solid_model.specs.GridBox.{grid_sizes, axis_along, axis_across}
use Rattle.solid_model.proofs.BoxCells.{below-bounds}
use Rattle.solid_model.proofs.Gaps.{member}
use Rattle.solid_model.proofs.GridMatching.{matching_draws_it}
use Rattle.solid_model.proofs.GridStyle.{grid_style-drawing}
use Rattle.column_laws.proofs.SettledColumns.{IsEmptyBeyond}
use Rattle.lemmas.specs.Bits.{bits}
use Rattle.column_laws.specs.GridPanels.{IsColumnBeside, AreColumnsBeside}
use Rattle.column_laws.proofs.GridSegments.{empty_bits, segment_drawn}
use Rattle.column_laws.proofs.ColumnNumbers.{columns_beside}
use Rattle.column_laws.proofs.OwnColumns.{own_column, own_beside, own_off, own_is_grid_column}
use Rattle.solid_model.proofs.SomeLines.{some_across}
use Rattle.column_laws.proofs.SomeStyle.{some_style}

module _ (drawing : Segment → Style) (is : IsDrawing drawing) (g : GridParts) (grid : IsGridOf drawing g) (b : BlockNumbers) (blocks : IsBlocksOf g b)
    (choice : List Bool) (l : LineId) (has : IsTrue (has_line g l)) where
  abbrev frame : Frame
  frame = frame_of l.view

  abbrev lines : ℕ
  lines = grid_sizes g (axis_across l.view l.upright)

  abbrev cells : ℕ
  cells = grid_sizes g (axis_along l.view l.upright)

  abbrev column_at : ℤ → ℤ → Bool
  column_at = own_column g b blocks choice l.view l.upright l.cell

  abbrev chosen : List Bool
  chosen = cells_of_choice b.numbers choice

  -- the columns that the choice fills after and before the line
  abbrev pub own_after : ℤ → Bool
  own_after = column_at (pos l.at)

  abbrev pub own_before : ℤ → Bool
  own_before = column_at (pos l.at -ℤ pos 1)

  -- the line's first unit segment
  abbrev pub first_segment : Segment
  first_segment = segment_at l.view l.upright
      (member (coordinates_of g (axis_along l.view l.upright)) l.cell) (member (coordinates_of g (axis_across l.view l.upright)) l.at)

  fits : (nat_lt l.at (suc lines) && nat_lt l.cell cells) ≡ true
  fits = (and_parts (is_drawn_view g l.view) (nat_lt l.at (suc lines) && nat_lt l.cell cells) has).1

  shown : Shows drawing l.view
  shown = view_drawn drawing g grid l.view (and_parts (is_drawn_view g l.view) (nat_lt l.at (suc lines) && nat_lt l.cell cells) has).0

  at_view : (u : Bool) (a z : ℤ) → Shows drawing (segment_at l.view u a z).view
  at_view true a z = shown
  at_view false a z = shown

  cell_within : l.cell < cells
  cell_within = ltb-true _ _ (and_parts (nat_lt l.at (suc lines)) (nat_lt l.cell cells) fits).1

  line_within : l.at < length (coordinates_of g (axis_across l.view l.upright))
  line_within =
      let least = ltb-true l.at (suc lines) (and_parts (nat_lt l.at (suc lines)) (nat_lt l.cell cells) fits).0 in
      omega (arith, least, some_across drawing is g grid l.view l.upright)

  -- ---- the columns as numbers

  same_column : (line n : ℕ) → IsColumnBeside frame (grid_sizes g) chosen l.upright l.cell line n
      → (k : ℤ) → column_at (pos line) k ≡ bits n k
  same_column line n column k = elim (cases_lt line lines) as (λ _. column_at (pos line) k ≡ bits n k) [
    | inl m ↦ own_is_grid_column g b blocks choice l.view l.upright l.cell line cell_within m k ∙ sym (column.inside m k)
    | inr m ↦ own_beside g b blocks choice l.view l.upright l.cell (pos line) k
        (λ e. let high = (below-bounds lines (pos line) e).1 in omega (arith, ints))
        ∙ sym (empty_bits k) ∙ ap (λ (m : ℕ). bits m k) (sym (column.outside m))
  ]

  same_before : (line after before : ℕ) → l.at ≡ line → AreColumnsBeside frame (grid_sizes g) chosen l.upright l.cell line after before
      → (k : ℤ) → own_before k ≡ bits before k
  same_before zero after before e columns k =
      own_beside g b blocks choice l.view l.upright l.cell (pos l.at -ℤ pos 1) k
      (λ below. let low = (below-bounds lines (pos l.at -ℤ pos 1) below).0 in omega (arith, ints))
      ∙ sym (empty_bits k) ∙ ap (λ (m : ℕ). bits m k) (sym (columns.before_first refl))
  same_before (suc line) after before e columns k =
      let back : pos l.at -ℤ pos 1 ≡ pos line = omega (arith, ints) in
      ap (λ j. column_at j k) back ∙ same_column line before (columns.before_is line refl) k

  -- ---- what they draw

  few : grid_sizes g frame.away.axis ≤ 64
  few = omega (arith, grid.few frame.away.axis)

  -- the solid that the choice fills draws it on the line
  pub own_style_drawn : (s : List Cell) → IsUnionOf (coordinates_of g) chosen (is_full s) → (style : Style) → ColumnsDraw own_after own_before style
      → style ≡ solid_drawing s first_segment
  own_style_drawn s union style draws = by (columns_beside frame (grid_sizes g) chosen few l.upright l.cell l.at)
    where
      by : (after before : ℕ) × AreColumnsBeside frame (grid_sizes g) chosen l.upright l.cell l.at after before → style ≡ solid_drawing s first_segment
      by (after, before, columns) =
          segment_drawn (coordinates_of g) (λ a. (grid.coordinates a).ordered) chosen s union l.view l.upright l.cell l.at after before columns
          (omega (arith, cell_within)) line_within style
          (subst (λ (c : ℤ → Bool). ColumnsDraw (bits after) c style) (λ t k. same_before l.at after before refl columns k t)
          (subst (λ (c : ℤ → Bool). ColumnsDraw c own_before style) (λ t k. same_column l.at after columns.after_is k t) draws))

  -- the grid has the style of its own drawing there
  pub line_drawing : line_style g l ≡ drawing first_segment
  line_drawing = grid_style-drawing drawing g grid.styles l.view l.upright l.at l.cell line_within cell_within

  -- the columns are empty beyond the box
  beyond : (j : ℤ) → IsEmptyBeyond (grid_sizes g frame.away.axis) (λ k. Some (column_at j k))
  beyond j = record {
    nearer = λ k. ap Some (own_off g b blocks choice l.view l.upright l.cell j (negsuc k) (λ r. let low = r.0 in omega (arith, ints)));
    farther = λ k m. ap Some (own_off g b blocks choice l.view l.upright l.cell j (pos k) (λ r. let high = r.1 in omega (arith, ints)));
  }

  -- so where the solid matches the drawing, they draw the line's style
  pub matching_draws_line : (s : List Cell) → IsUnionOf (coordinates_of g) chosen (is_full s) → Matches drawing s
      → ColumnsDraw own_after own_before (line_style g l)
  matching_draws_line s union matches = by (some_style own_after own_before (grid_sizes g frame.away.axis) (beyond (pos l.at)) (beyond (pos l.at -ℤ pos 1)))
    where
      by : (style : Style) × ColumnsDraw own_after own_before style → ColumnsDraw own_after own_before (line_style g l)
      by (style, draws) = subst (ColumnsDraw own_after own_before)
          (own_style_drawn s union style draws ∙ matching_draws_it drawing s matches first_segment (at_view l.upright (member (coordinates_of g (axis_along l.view l.upright)) l.cell) (member (coordinates_of g (axis_across l.view l.upright)) l.at)) ∙ sym line_drawing) draws
