-- A view of a drawing, moved so that its least coordinates are 0.
use Rattle.std.specs.Prelude.{◌≡◌, ◌≢◌, Bool, ℤ, ◌≤ℤ◌}
use Rattle.solid_model.specs.declared.frame.View.{View}
use Rattle.solid_model.specs.declared.segment.Segment.{Segment}
use Rattle.solid_model.specs.declared.segment.Style.{Style}
use Rattle.solid_model.specs.declared.segment.Style.TheVariants.{Blank}
use Rattle.solid_model.specs.declared.cell.Axis.{Axis}
use Rattle.solid_model.specs.Frames.{frame_of, along}
use Rattle.solid_model.specs.Segments.{farther}

-- the drawing shows something in a view
abbrev pub Shows : (Segment → Style) → View → Type 0
Shows drawing v = (h : Segment) × (h.view ≡ v) × (drawing h ≢ Blank)

-- each axis runs to the right or upwards in some view that it shows: at most one view is missing
abbrev pub SeesEachAxis : (Segment → Style) → Type 0
SeesEachAxis drawing = (a : Axis) → (v : View) × (upright : Bool) × ((along (frame_of v) upright).axis ≡ a) × Shows drawing v

-- what a drawing shows in a view stands nowhere to the left of `right` or below `up`
abbrev pub StandsFrom : (Segment → Style) → View → ℤ → ℤ → Type 0
StandsFrom drawing v right up = (g : Segment) → g.view ≡ v → drawing g ≢ Blank → (right ≤ℤ g.right) × (up ≤ℤ g.up)

-- it begins there: something stands at the coordinate `right`, and something at `up`
pub record BeginsAt (drawing : Segment → Style) (v : View) (right up : ℤ) : Type 0 where
  pub stands_from : StandsFrom drawing v right up
  pub at_left : (g : Segment) × (g.view ≡ v) × (drawing g ≢ Blank) × (g.right ≡ right)
  pub at_bottom : (g : Segment) × (g.view ≡ v) × (drawing g ≢ Blank) × (g.up ≡ up)

-- a drawing, each view moved so that what stood at its place (right, up) comes to (0, 0)
abbrev pub moved : (View → ℤ) → (View → ℤ) → (Segment → Style) → Segment → Style
moved right up drawing g = drawing (farther (right g.view) (up g.view) g)

-- in a view the second drawing is the first one, moved to least coordinates 0
abbrev pub IsMovedToZero : (Segment → Style) → (Segment → Style) → View → Type 0
IsMovedToZero drawing at_zero v = (right up : ℤ) × BeginsAt drawing v right up
    × ((g : Segment) → g.view ≡ v → at_zero g ≡ drawing (farther right up g))
