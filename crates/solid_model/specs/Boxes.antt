-- Where the cells of a solid stand in a view, and the box that a drawing's segments fit in.
use Rattle.std.specs.Prelude.{◌≡◌, ◌≢◌, ℤ, pos, ◌≤ℤ◌, ◌<ℤ◌}
use Rattle.solid_model.specs.declared.cell.Axis.{Axis}
use Rattle.solid_model.specs.declared.cell.Cell.{Cell}
use Rattle.solid_model.specs.declared.frame.Direction.{Direction}
use Rattle.solid_model.specs.declared.frame.View.{View}
use Rattle.solid_model.specs.declared.segment.Segment.{Segment}
use Rattle.solid_model.specs.declared.segment.Style.{Style}
use Rattle.solid_model.specs.declared.segment.Style.TheVariants.{Blank}
use Rattle.solid_model.specs.Cells.{coordinate}
use Rattle.solid_model.specs.Frames.{cell_on}
use Rattle.solid_model.specs.Segments.{far_right, far_up}

-- the place of a cell along a direction: it fills that place to the next
abbrev pub place_of : Direction → Cell → ℤ
place_of d c = cell_on d (coordinate d.axis c)

-- the segment lies in the rectangle from (0, 0) to (width, height)
pub record LiesInRectangle (width height : ℤ) (g : Segment) : Type 0 where
  pub left : pos 0 ≤ℤ g.right
  pub right : far_right g ≤ℤ width
  pub bottom : pos 0 ≤ℤ g.up
  pub top : far_up g ≤ℤ height

-- all that a drawing shows in a view lies in the rectangle from (0, 0) to (width, height)
abbrev pub FitsIn : (Segment → Style) → View → ℤ → ℤ → Type 0
FitsIn drawing view width height = (g : Segment) → g.view ≡ view → drawing g ≢ Blank → LiesInRectangle width height g

-- a cell stands between two places along a direction, the second left out
abbrev pub StandsBetween : ℤ → ℤ → Direction → Cell → Type 0
StandsBetween first end d c = (first ≤ℤ place_of d c) × (place_of d c <ℤ end)

-- a cell lies in the box from the origin with these extents
abbrev pub LiesInBox : (Axis → ℤ) → Cell → Type 0
LiesInBox extent c = (a : Axis) → (pos 0 ≤ℤ coordinate a c) × (coordinate a c <ℤ extent a)
