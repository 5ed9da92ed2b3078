-- Drawings that stay on a grid: that of which it is the grid, and those of unions of its cells.
use Rattle.std.proofs.Common.{◌≡◌, ◌≢◌, ◌⊎◌, inl, inr, ⊎_elim, Bool, true, false, ℕ, List, ℤ, pos, ◌+ℤ◌, ◌-ℤ◌, ◌≤ℤ◌, ◌<ℤ◌, IsTrue, refl, sym, ◌∙◌, arith}
use Rattle.std.proofs.lemmas.Int.{ints}
use Rattle.solid_model.specs.declared.cell.Axis.{Axis}
use Rattle.solid_model.specs.declared.frame.View.{View}
use Rattle.solid_model.specs.declared.segment.Segment.{Segment}
use Rattle.solid_model.specs.declared.segment.Style.{Style}
use Rattle.solid_model.specs.declared.segment.Style.TheVariants.{Blank, Dashed, Solid}
use Rattle.solid_model.specs.Frames.{frame_of, along, across}
use Rattle.solid_model.specs.Grid.{AreGridCoordinates, is_in_gap, IsInSomeGap, Coordinates}
use Rattle.lemmas.specs.Lists.{Member}
use Rattle.solid_model.specs.Runs.{IsDrawing}
use Rattle.solid_model.specs.Segments.{segment_at}
use Rattle.solid_model.proofs.InGrid.{blank_or_drawn, gap_at, some_gap_or_outside, steady_between}

-- A drawing stays on a grid with these coordinates: off the lines of the grid, and before and past the grid along a line, it
-- is blank, and between two neighbouring coordinates along a line it doesn't change.
pub record StaysOnGrid (coordinates : Coordinates) (drawing : Segment → Style) : Type 0 where
  pub off_lines : (v : View) (upright : Bool) (start line : ℤ) → (Member (coordinates (across (frame_of v) upright).axis) line → ⊥)
      → drawing (segment_at v upright start line) ≡ Blank
  pub off_ends : (v : View) (upright : Bool) (start line : ℤ) → (IsInSomeGap (coordinates (along (frame_of v) upright).axis) start → ⊥)
      → drawing (segment_at v upright start line) ≡ Blank
  pub steady : (v : View) (upright : Bool) (n : ℕ) (start other line : ℤ) → IsTrue (is_in_gap (coordinates (along (frame_of v) upright).axis) n start)
      → IsTrue (is_in_gap (coordinates (along (frame_of v) upright).axis) n other)
      → drawing (segment_at v upright start line) ≡ drawing (segment_at v upright other line)

-- ---- the drawing of which it is the grid

-- two styles are one or aren't
one_style_or_two : (a b : Style) → (a ≡ b) ⊎ (a ≢ b)
one_style_or_two Blank Blank = inl refl
one_style_or_two Blank Dashed = inr (λ e. cc)
one_style_or_two Blank Solid = inr (λ e. cc)
one_style_or_two Dashed Blank = inr (λ e. cc)
one_style_or_two Dashed Dashed = inl refl
one_style_or_two Dashed Solid = inr (λ e. cc)
one_style_or_two Solid Blank = inr (λ e. cc)
one_style_or_two Solid Dashed = inr (λ e. cc)
one_style_or_two Solid Solid = inl refl

module _ (drawing : Segment → Style) (is : IsDrawing drawing) (coordinates : Coordinates)
    (are : (a : Axis) → AreGridCoordinates drawing a (coordinates a)) where
  -- what is drawn on a line puts it on the grid
  drawn_on_line : (v : View) (upright : Bool) (start line : ℤ) → drawing (segment_at v upright start line) ≢ Blank
      → Member (coordinates (across (frame_of v) upright).axis) line
  drawn_on_line v true start line drawn = ((are (across (frame_of v) true).axis).exact line).1 (v, false, refl, inl (start, drawn))
  drawn_on_line v false start line drawn = ((are (across (frame_of v) false).axis).exact line).1 (v, true, refl, inl (start, drawn))

  off_its_lines : (v : View) (upright : Bool) (start line : ℤ) → (Member (coordinates (across (frame_of v) upright).axis) line → ⊥)
      → drawing (segment_at v upright start line) ≡ Blank
  off_its_lines v upright start line none =
      ⊎_elim (λ e. e) (λ drawn. absurd (none (drawn_on_line v upright start line drawn))) (blank_or_drawn (drawing (segment_at v upright start line)))

  -- where no coordinate stands the style doesn't change
  no_change : (v : View) (upright : Bool) (z line : ℤ) → (Member (coordinates (along (frame_of v) upright).axis) z → ⊥)
      → drawing (segment_at v upright (z -ℤ pos 1) line) ≡ drawing (segment_at v upright z line)
  no_change v upright z line none =
      ⊎_elim (λ e. e) (λ differ. absurd (none (((are (along (frame_of v) upright).axis).exact z).1 (v, upright, refl, inr (line, differ)))))
      (one_style_or_two (drawing (segment_at v upright (z -ℤ pos 1) line)) (drawing (segment_at v upright z line)))

  steady_in_gap : (v : View) (upright : Bool) (n : ℕ) (start other line : ℤ) → IsTrue (is_in_gap (coordinates (along (frame_of v) upright).axis) n start)
      → IsTrue (is_in_gap (coordinates (along (frame_of v) upright).axis) n other)
      → drawing (segment_at v upright start line) ≡ drawing (segment_at v upright other line)
  steady_in_gap v upright n start other line at_start at_other =
      let gap = gap_at (coordinates (along (frame_of v) upright).axis) (are (along (frame_of v) upright).axis).ordered n start at_start in
      steady_between (λ z. drawing (segment_at v upright z line)) gap.low gap.high (λ z from to. no_change v upright z line (gap.none_between z from to))
      start other (gap.inside start at_start) (gap.inside other at_other)

  -- what is drawn lies between 0 and the farthest coordinate
  drawn_within : (v : View) (upright : Bool) (start line : ℤ) → drawing (segment_at v upright start line) ≢ Blank → (pos 0 ≤ℤ start) × (start <ℤ pos 2000000000)
  drawn_within v true start line drawn =
      let begins = (is.begins v (segment_at v true start line, refl, drawn)).stands_from (segment_at v true start line) refl drawn in
      let ends = is.near (segment_at v true start line) drawn in
      (begins.1, omega (arith, ints, ends.1))
  drawn_within v false start line drawn =
      let begins = (is.begins v (segment_at v false start line, refl, drawn)).stands_from (segment_at v false start line) refl drawn in
      let ends = is.near (segment_at v false start line) drawn in
      (begins.0, omega (arith, ints, ends.0))

  off_its_ends : (v : View) (upright : Bool) (start line : ℤ) → (IsInSomeGap (coordinates (along (frame_of v) upright).axis) start → ⊥)
      → drawing (segment_at v upright start line) ≡ Blank
  off_its_ends v upright start line none =
      ⊎_elim (λ e. e) (λ drawn. absurd (⊎_elim {C = ⊥} none (⊎_elim {C = ⊥} (all_beyond drawn) (all_behind drawn)) (some_gap_or_outside zs (are (along (frame_of v) upright).axis).ordered start)))
      (blank_or_drawn (drawing (segment_at v upright start line)))
    where
      zs : List ℤ
      zs = coordinates (along (frame_of v) upright).axis

      -- the same style would stand before 0
      all_beyond : drawing (segment_at v upright start line) ≢ Blank → ((w : ℤ) → Member zs w → start <ℤ w) → ⊥
      all_beyond drawn beyond =
          let at = drawn_within v upright start line drawn in
          let same = steady_between (λ z. drawing (segment_at v upright z line)) (pos 0 -ℤ pos 1) (start +ℤ pos 1)
          (λ z from to. no_change v upright z line (λ k. let l = beyond z k in omega (arith, ints)))
          (pos 0 -ℤ pos 1) start (omega (arith, ints), omega (arith, ints)) (omega (arith, ints), omega (arith, ints)) in
          let before = drawn_within v upright (pos 0 -ℤ pos 1) line (λ blank. drawn (sym same ∙ blank)) in
          omega (arith, ints)

      -- or beyond the farthest coordinate
      all_behind : drawing (segment_at v upright start line) ≢ Blank → ((w : ℤ) → Member zs w → w ≤ℤ start) → ⊥
      all_behind drawn behind =
          let at = drawn_within v upright start line drawn in
          let same = steady_between (λ z. drawing (segment_at v upright z line)) start (pos 2000000000 +ℤ pos 1)
          (λ z from to. no_change v upright z line (λ k. let l = behind z k in omega (arith, ints)))
          (pos 2000000000) start (omega (arith, ints), omega (arith, ints)) (omega (arith, ints), omega (arith, ints)) in
          let after = drawn_within v upright (pos 2000000000) line (λ blank. drawn (sym same ∙ blank)) in
          omega (arith, ints)

  -- a drawing stays on its own grid
  pub on_own_grid : StaysOnGrid coordinates drawing
  on_own_grid = record { off_lines = off_its_lines; off_ends = off_its_ends; steady = steady_in_gap }
