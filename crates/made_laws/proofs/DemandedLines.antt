-- A line of a solid's own grid can't be met where the solid's columns beside it differ, and what is known of the two columns makes
-- them equal.
use Rattle.std.proofs.Common.{◌≡◌, ◌≢◌, Bool, false, nat_lt, ℕ, suc, ◌<◌, List, [], length, ℤ, Option, Some, refl, sym, subst, ◌∙◌, arith}
use Rattle.std.proofs.lemmas.Bool.{and_from, lt-ltb}
use Rattle.solid_model.specs.declared.cell.Cell.{Cell}
use Rattle.solid_model.specs.declared.frame.View.{View}
use Rattle.solid_model.specs.declared.line_id.LineId.{LineId}
use Rattle.solid_model.specs.declared.segment.Segment.{Segment}
use Rattle.solid_model.specs.declared.segment.Style.{Style}
use Rattle.solid_model.specs.declared.segment.Style.TheVariants.{Blank, Dashed, Solid}
use Rattle.solid_model.specs.Blocks.{ProblemParts}
use Rattle.solid_model.specs.Cells.{is_full}
use Rattle.solid_model.specs.Columns.{column_after, column_before, IsFirstFull, HaveSameFirstFull, ColumnsDraw}
use Rattle.solid_model.specs.Demands.{line_style, said_by, known_cell, known_after, known_before, CanDraw}
use Rattle.solid_model.specs.Forcing.{IsLive}
use Rattle.solid_model.specs.Draws.{Draws}
use Rattle.solid_model.specs.DrawnStyle.{solid_drawing, drawn_style}
use Rattle.solid_model.specs.Frames.{frame_of}
use Rattle.solid_model.specs.Panels.{coordinates_of, IsGridOf}
use Rattle.solid_model.specs.Runs.{IsDrawing}
use Rattle.solid_model.specs.Segments.{segment_at}
use Rattle.solid_model.specs.Wire.{is_drawn_view}
use Rattle.solid_model.specs.GridBox.{grid_sizes, axis_along, axis_across}
use Rattle.solid_model.proofs.ColumnRule.{columns_drawn}
use Rattle.solid_model.proofs.Gaps.{member}
use Rattle.solid_model.proofs.GridMatching.{shown_drawn}
use Rattle.solid_model.proofs.GridStyle.{grid_style-drawing}
use Rattle.solid_model.proofs.Styles.{one_style, drawn_style_drawn}
use Rattle.solid_model.proofs.Views.{views_are_frames}

-- ---- columns that are known

-- at each depth both are known to have one value
abbrev pub AreKnownEqual : (ℤ → Option Bool) → (ℤ → Option Bool) → Type 0
AreKnownEqual known other = (k : ℤ) → (value : Bool) × (known k ≡ Some value) × (other k ≡ Some value)

-- such columns draw nothing
known_equal_blank : (known other : ℤ → Option Bool) (style : Style) → AreKnownEqual known other → CanDraw known other style → style ≡ Blank
known_equal_blank known other style equal can = by style can.4
  where
    same : (k : ℤ) → can.0 k ≡ can.1 k
    same k = let at = equal k in can.2 k at.0 at.1 ∙ sym (can.3 k at.0 at.2)

    first_too : (a b : ℤ → Bool) → ((k : ℤ) → a k ≡ b k) → (k : ℤ) → IsFirstFull a k → IsFirstFull b k
    first_too a b equal k first = (sym (equal k) ∙ first.0, λ n l. sym (equal n) ∙ first.1 n l)

    by : (s : Style) → ColumnsDraw can.0 can.1 s → s ≡ Blank
    by Blank drawn = λ t. Blank
    by Dashed drawn = absurd (drawn.0.1 (same drawn.0.0))
    by Solid drawn = absurd (drawn (λ k. (first_too can.0 can.1 same k, first_too can.1 can.0 (λ n. sym (same n)) k)))

-- ---- a solid's own lines

-- where the columns beside a segment differ something is drawn
drawn_where_different : (v : View) (s : List Cell) (g : Segment) (k : ℤ)
    → column_after (frame_of v) (is_full s) g k ≢ column_before (frame_of v) (is_full s) g k → drawn_style (frame_of v) s g ≡ Blank → ⊥
drawn_where_different v s g k differ blank = differ_first (λ same. never Dashed (λ e. cc) (((k, differ), same)))
  where
    drawn : Draws (frame_of v) (is_full s) g Blank
    drawn = subst (Draws (frame_of v) (is_full s) g) blank (drawn_style_drawn (frame_of v) (views_are_frames v) s g)

    never : (style : Style) → (Blank ≡ style → ⊥) → ColumnsDraw (column_after (frame_of v) (is_full s) g) (column_before (frame_of v) (is_full s) g) style → ⊥
    never style other columns =
        other (one_style (frame_of v) (is_full s) g Blank style drawn (columns_drawn (frame_of v) (views_are_frames v) s g style columns))

    differ_first : (HaveSameFirstFull (column_after (frame_of v) (is_full s) g) (column_before (frame_of v) (is_full s) g) → ⊥) → ⊥
    differ_first different = never Solid (λ e. cc) different

module _ (s : List Cell) (is : IsDrawing (solid_drawing s)) (p : ProblemParts) (grid : IsGridOf (solid_drawing s) p.grid) (v : View) (at cell : ℕ)
    (on_line : at < length (coordinates_of p.grid (axis_across v false))) (in_row : cell < grid_sizes p.grid (axis_along v false)) where
  -- the level line
  abbrev pub level_line : LineId
  level_line = record { view = v; upright = false; at = at; cell = cell }

  -- its first unit segment
  abbrev pub first_segment : Segment
  first_segment = segment_at v false (member (coordinates_of p.grid (axis_along v false)) cell) (member (coordinates_of p.grid (axis_across v false)) at)

  -- No live prefix makes the columns beside it equal, where those of the solid differ.
  pub not_known_equal : (k : ℤ) → column_after (frame_of v) (is_full s) first_segment k ≢ column_before (frame_of v) (is_full s) first_segment k
      → (prefix : List Bool) → IsLive p prefix
      → AreKnownEqual (known_after p.grid (known_cell p.blocks (said_by prefix)) level_line) (known_before p.grid (known_cell p.blocks (said_by prefix)) level_line) → ⊥
  not_known_equal k differ prefix live equal =
      let shown = shown_drawn (solid_drawing s) is p.grid grid v (first_segment, refl, drawn_where_different v s first_segment k differ) in
      let fits = and_from (nat_lt at (suc (grid_sizes p.grid (axis_across v false)))) (nat_lt cell (grid_sizes p.grid (axis_along v false)))
      (lt-ltb at (suc (grid_sizes p.grid (axis_across v false))) (omega arith)) (lt-ltb cell (grid_sizes p.grid (axis_along v false)) in_row) in
      let met = live.lives [] tt level_line (and_from (is_drawn_view p.grid v) _ shown fits) in
      let blank = known_equal_blank _ _ (line_style p.grid level_line) equal met in
      drawn_where_different v s first_segment k differ
      (sym (grid_style-drawing (solid_drawing s) p.grid grid.styles v false at cell on_line in_row) ∙ blank)
