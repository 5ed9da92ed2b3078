-- What a matching solid draws in each view, and where it stands along each axis.
use Rattle.std.proofs.Common.{◌≡◌, Bool, true, false, List, ℤ, pos, ◌≤ℤ◌, ◌<ℤ◌, IsTrue, sym, subst}
use Rattle.solid_model.specs.declared.cell.Axis.{Axis}
use Rattle.solid_model.specs.declared.cell.Axis.TheVariants.{X, Y, Z}
use Rattle.solid_model.specs.declared.cell.Cell.{Cell}
use Rattle.solid_model.specs.declared.frame.View.{View}
use Rattle.solid_model.specs.declared.frame.View.TheVariants.{Front, Top, Side}
use Rattle.solid_model.specs.declared.segment.Segment.{Segment}
use Rattle.solid_model.specs.declared.segment.Style.{Style}
use Rattle.solid_model.specs.Boxes.{FitsIn, StandsBetween, LiesInBox}
use Rattle.solid_model.specs.Cells.{coordinate, is_full}
use Rattle.solid_model.specs.Draws.{Draws, DrawsView}
use Rattle.solid_model.specs.Frames.{frame_of, along}
use Rattle.solid_model.specs.Matching.{Matches}
use Rattle.solid_model.specs.Moved.{StandsFrom, Shows, SeesEachAxis}
use Rattle.solid_model.specs.Runs.{IsDrawing}
use Rattle.solid_model.proofs.FirstCells.{no_cell_before, cell_at_beginning}
use Rattle.solid_model.proofs.WithinViews.{lies_in_rectangle}
use Rattle.solid_model.proofs.Views.{views_are_frames}

module _ (drawing : Segment → Style) (s : List Cell) (matches : Matches drawing s) where
  -- in the frame of a view that isn't missing the solid draws what the view shows
  pub matching_draws : (v : View) → Shows drawing v → DrawsView (frame_of v) (is_full s) drawing v
  matching_draws v shows g of = subst (λ w. Draws (frame_of w) (is_full s) g (drawing g)) of (matches.1 g (subst (Shows drawing) (sym of) shows))

  -- ---- each axis runs to the right or upwards in some view that isn't missing

  -- the solid lies in the box in whose sides its views lie
  pub lies_in_box : SeesEachAxis drawing → (extent : Axis → ℤ) → ((v : View) → FitsIn drawing v (extent (frame_of v).right.axis) (extent (frame_of v).up.axis))
      → (c : Cell) → IsTrue (is_full s c) → LiesInBox extent c
  lies_in_box sees extent fits c full a =
      let at = sees a in subst (λ b. (pos 0 ≤ℤ coordinate b c) × (coordinate b c <ℤ extent b)) at.2 (by at.0 at.1 at.3)
    where
      in_view : (v : View) → Shows drawing v → StandsBetween (pos 0) (extent (frame_of v).right.axis) (frame_of v).right c × StandsBetween (pos 0) (extent (frame_of v).up.axis) (frame_of v).up c
      in_view v shows = lies_in_rectangle (frame_of v) (views_are_frames v) drawing s v (matching_draws v shows) (extent (frame_of v).right.axis) (extent (frame_of v).up.axis) (fits v) c full

      by : (v : View) (upright : Bool) → Shows drawing v → (pos 0 ≤ℤ coordinate (along (frame_of v) upright).axis c) × (coordinate (along (frame_of v) upright).axis c <ℤ extent (along (frame_of v) upright).axis)
      by Front false shows = (in_view Front shows).0
      by Front true shows = (in_view Front shows).1
      by Top false shows = (in_view Top shows).0
      by Top true shows = (in_view Top shows).1
      by Side false shows = (in_view Side shows).0
      by Side true shows = (in_view Side shows).1

  -- no cell has a coordinate below 0
  pub none_below_zero : SeesEachAxis drawing → ((v : View) → StandsFrom drawing v (pos 0) (pos 0)) → (c : Cell) → IsTrue (is_full s c) → (a : Axis) → pos 0 ≤ℤ coordinate a c
  none_below_zero sees stands c full a = let at = sees a in subst (λ b. pos 0 ≤ℤ coordinate b c) at.2 (by at.0 at.1 at.3)
    where
      by : (v : View) (upright : Bool) → Shows drawing v → pos 0 ≤ℤ coordinate (along (frame_of v) upright).axis c
      by Front false shows = no_cell_before (frame_of Front) (views_are_frames Front) drawing s Front (matching_draws Front shows) (pos 0) (pos 0) (stands Front) true c full
      by Front true shows = no_cell_before (frame_of Front) (views_are_frames Front) drawing s Front (matching_draws Front shows) (pos 0) (pos 0) (stands Front) false c full
      by Top false shows = no_cell_before (frame_of Top) (views_are_frames Top) drawing s Top (matching_draws Top shows) (pos 0) (pos 0) (stands Top) true c full
      by Top true shows = no_cell_before (frame_of Top) (views_are_frames Top) drawing s Top (matching_draws Top shows) (pos 0) (pos 0) (stands Top) false c full
      by Side false shows = no_cell_before (frame_of Side) (views_are_frames Side) drawing s Side (matching_draws Side shows) (pos 0) (pos 0) (stands Side) true c full
      by Side true shows = no_cell_before (frame_of Side) (views_are_frames Side) drawing s Side (matching_draws Side shows) (pos 0) (pos 0) (stands Side) false c full

  -- and some cell has the coordinate 0
  pub zero_reached : IsDrawing drawing → (a : Axis) → (c : Cell) × IsTrue (is_full s c) × (coordinate a c ≡ pos 0)
  zero_reached is a = let at = is.sees a in subst (λ b. (c : Cell) × IsTrue (is_full s c) × (coordinate b c ≡ pos 0)) at.2 (by at.0 at.1 at.3)
    where
      by : (v : View) (upright : Bool) → Shows drawing v → (c : Cell) × IsTrue (is_full s c) × (coordinate (along (frame_of v) upright).axis c ≡ pos 0)
      by Front false shows = cell_at_beginning (frame_of Front) (views_are_frames Front) drawing s Front (matching_draws Front shows) (pos 0) (pos 0) (is.begins Front shows) true
      by Front true shows = cell_at_beginning (frame_of Front) (views_are_frames Front) drawing s Front (matching_draws Front shows) (pos 0) (pos 0) (is.begins Front shows) false
      by Top false shows = cell_at_beginning (frame_of Top) (views_are_frames Top) drawing s Top (matching_draws Top shows) (pos 0) (pos 0) (is.begins Top shows) true
      by Top true shows = cell_at_beginning (frame_of Top) (views_are_frames Top) drawing s Top (matching_draws Top shows) (pos 0) (pos 0) (is.begins Top shows) false
      by Side false shows = cell_at_beginning (frame_of Side) (views_are_frames Side) drawing s Side (matching_draws Side shows) (pos 0) (pos 0) (is.begins Side shows) true
      by Side true shows = cell_at_beginning (frame_of Side) (views_are_frames Side) drawing s Side (matching_draws Side shows) (pos 0) (pos 0) (is.begins Side shows) false
