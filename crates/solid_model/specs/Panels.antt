-- The styles of a grid's segments, view by view, and the grid of a drawing.
use Rattle.std.specs.Prelude.{◌≡◌, ◌≤◌, ◌-◌, Bool, List, length, take, ℤ, if◌then◌else◌}
use Rattle.std.specs.List.{flat_map}
use Rattle.solid_model.specs.declared.cell.Axis.{Axis}
use Rattle.solid_model.specs.declared.cell.Axis.TheVariants.{X, Y, Z}
use Rattle.solid_model.specs.declared.frame.View.{View}
use Rattle.solid_model.specs.declared.per_view.PerView.{PerView}
use Rattle.solid_model.specs.declared.segment.Segment.{Segment}
use Rattle.solid_model.specs.declared.segment.Style.{Style}
use Rattle.solid_model.specs.DrawnStyle.{line_styles}
use Rattle.solid_model.specs.Frames.{frame_of, along, across}
use Rattle.solid_model.specs.Grid.{Coordinates, AreGridCoordinates}
use Rattle.solid_model.specs.Limits.{most_grid_coordinates}
use Rattle.solid_model.specs.Moved.{SeesEachAxis}
use Rattle.solid_model.specs.PerView.{of_view}
use Rattle.solid_model.specs.Runs.{IsDrawing}

-- the styles of a view's level and upright grid segments
pub record PanelStyles : Type 0 where
  pub level : List Style
  pub upright : List Style

-- the level or the upright ones
abbrev pub styles_along : Bool → PanelStyles → List Style
styles_along upright p = if upright then p.upright else p.level

-- those of three views
abbrev pub PanelsStyles : Type 0
PanelsStyles = PerView PanelStyles

-- the members of a list but its last one: where the grid segments along an axis begin
abbrev pub starts_of : List ℤ → List ℤ
starts_of zs = take (length zs - 1) zs

-- The styles that a drawing gives the level, or the upright, grid segments of a view: by position across them, then by cell.
-- A grid segment has the style of its first unit segment.
abbrev pub grid_styles : (Segment → Style) → Coordinates → View → Bool → List Style
grid_styles drawing coordinates v upright =
    flat_map (line_styles drawing v upright (starts_of (coordinates (along (frame_of v) upright).axis))) (coordinates (across (frame_of v) upright).axis)

-- these are the styles that a drawing gives the segments of a grid with these coordinates
abbrev pub AreGridStyles : (Segment → Style) → Coordinates → PanelsStyles → Type 0
AreGridStyles drawing coordinates panels =
    (v : View) (upright : Bool) → styles_along upright (of_view v panels) ≡ grid_styles drawing coordinates v upright

-- ---- the grid of a drawing

-- a grid: its coordinates along the three axes, and the styles of its segments
pub record GridParts : Type 0 where
  pub xs : List ℤ
  pub ys : List ℤ
  pub zs : List ℤ
  pub panels : PanelsStyles

-- its coordinates along an axis
abbrev pub coordinates_of : GridParts → Coordinates
coordinates_of g X = g.xs
coordinates_of g Y = g.ys
coordinates_of g Z = g.zs

-- the grid of a drawing
pub record IsGridOf (drawing : Segment → Style) (g : GridParts) : Type 0 where
  pub coordinates : (a : Axis) → AreGridCoordinates drawing a (coordinates_of g a)
  pub few : (a : Axis) → length (coordinates_of g a) ≤ most_grid_coordinates
  pub styles : AreGridStyles drawing (coordinates_of g) g.panels
  pub sees : SeesEachAxis drawing

-- what a grid keeps: it is that of a drawing
abbrev pub IsGrid : GridParts → Type 0
IsGrid g = (drawing : Segment → Style) × IsDrawing drawing × IsGridOf drawing g
