-- The drawing of a row of cubes that begins at 0 is a drawing, and the row's coordinates make its grid.
use Rattle.std.proofs.Common.{◌≢◌, ⊎_elim, Bool, true, false, List, ℤ, pos, ◌≤ℤ◌, ◌<ℤ◌, refl, arith}
use Rattle.std.proofs.lemmas.Int.{ints}
use Rattle.solid_model.specs.declared.cell.Axis.{Axis}
use Rattle.solid_model.specs.declared.cell.Axis.TheVariants.{X, Y, Z}
use Rattle.solid_model.specs.declared.frame.View.{View}
use Rattle.solid_model.specs.declared.frame.View.TheVariants.{Front, Top}
use Rattle.solid_model.specs.declared.segment.Segment.{Segment}
use Rattle.solid_model.specs.declared.segment.Style.{Style}
use Rattle.solid_model.specs.declared.segment.Style.TheVariants.{Blank}
use Rattle.solid_model.specs.Frames.{frame_of, along, across}
use Rattle.solid_model.specs.Grid.{Coordinates, IsInSomeGap, IsDrawnAcross}
use Rattle.solid_model.specs.Limits.{farthest_in_view}
use Rattle.lemmas.specs.Lists.{Member, Ascends}
use Rattle.solid_model.proofs.OnGrid.{StaysOnGrid}
use Rattle.solid_model.specs.Moved.{Shows, SeesEachAxis}
use Rattle.solid_model.specs.Runs.{IsDrawing}
use Rattle.solid_model.specs.Segments.{segment_at, far_right, far_up}
use Rattle.solid_model.proofs.InGrid.{gap_or_none, between_members}
use Rattle.solid_model.proofs.SameOnGrid.{member_or_not}

-- ---- drawings that stay on a grid

module _ (coordinates : Coordinates) (ascends : (a : Axis) → Ascends ◌<ℤ◌ (coordinates a)) (drawing : Segment → Style)
    (stays : StaysOnGrid coordinates drawing) (farthest : ℤ)
    (within : (a : Axis) (z : ℤ) → Member (coordinates a) z → (pos 0 ≤ℤ z) × (z ≤ℤ farthest)) where
  -- a segment that isn't blank lies on a line of the grid, between the grid's ends
  line_within : (v : View) (upright : Bool) (start line : ℤ) → drawing (segment_at v upright start line) ≢ Blank → (pos 0 ≤ℤ line) × (line ≤ℤ farthest)
  line_within v upright start line drawn = ⊎_elim (within (across (frame_of v) upright).axis line)
      (λ none. absurd (drawn (stays.off_lines v upright start line none))) (member_or_not (coordinates (across (frame_of v) upright).axis) line)

  start_within : (v : View) (upright : Bool) (start line : ℤ) → drawing (segment_at v upright start line) ≢ Blank → (pos 0 ≤ℤ start) × (start <ℤ farthest)
  start_within v upright start line drawn = ⊎_elim {C = (pos 0 ≤ℤ start) × (start <ℤ farthest)} between
      (λ none. absurd (drawn (stays.off_ends v upright start line none))) (gap_or_none zs (ascends (along (frame_of v) upright).axis) start)
    where
      zs : List ℤ
      zs = coordinates (along (frame_of v) upright).axis

      between : IsInSomeGap zs start → (pos 0 ≤ℤ start) × (start <ℤ farthest)
      between (n, e) =
          let (low, high) = between_members zs n start e in
          let first = within (along (frame_of v) upright).axis low.0 low.1 in
          let last = within (along (frame_of v) upright).axis high.0 high.1 in
          (omega (arith, ints, low.2, first.0), omega (arith, ints, high.2, last.1))

  record LiesOnGrid (g : Segment) : Type 0 where
    right : pos 0 ≤ℤ g.right
    up : pos 0 ≤ℤ g.up
    far_right : far_right g ≤ℤ farthest
    far_up : far_up g ≤ℤ farthest

  lies_on_grid : (v : View) (upright : Bool) (right up : ℤ) → drawing (record { view = v; upright = upright; right = right; up = up }) ≢ Blank
      → LiesOnGrid (record { view = v; upright = upright; right = right; up = up })
  lies_on_grid v true right up drawn =
      let line = line_within v true up right drawn in let start = start_within v true up right drawn in
      record { right = line.0; up = start.0; far_right = line.1; far_up = omega (arith, ints, start.1) }
  lies_on_grid v false right up drawn =
      let line = line_within v false right up drawn in let start = start_within v false right up drawn in
      record { right = start.0; up = line.0; far_right = omega (arith, ints, start.1); far_up = line.1 }

  -- Where each view has something drawn on its lines at 0, to the right and upwards, it is a drawing.
  pub drawing_on_grid : ((v : View) (upright : Bool) → IsDrawnAcross drawing v upright (pos 0)) → farthest ≤ℤ farthest_in_view → IsDrawing drawing
  drawing_on_grid at_zero near = record {
    sees = sees;
    begins = λ v shows. record {
      stands_from = λ g same drawn. let on = lies_on_grid g.view g.upright g.right g.up drawn in (on.right, on.up);
      at_left = (segment_at v true (at_zero v false).0 (pos 0), refl, (at_zero v false).1, refl);
      at_bottom = (segment_at v false (at_zero v true).0 (pos 0), refl, (at_zero v true).1, refl);
    };
    near = λ g drawn. let on = lies_on_grid g.view g.upright g.right g.up drawn in (omega (arith, ints, on.far_right, near), omega (arith, ints, on.far_up, near));
  }
    where
      shows_it : (v : View) → Shows drawing v
      shows_it v = (segment_at v true (at_zero v false).0 (pos 0), refl, (at_zero v false).1)

      sees : SeesEachAxis drawing
      sees X = (Front, false, refl, shows_it Front)
      sees Y = (Top, true, refl, shows_it Top)
      sees Z = (Front, true, refl, shows_it Front)
