-- The pseudo wire frame of a grid, as in Wesley and Markowsky, "Fleshing Out Projections" (1981): the grid edges that may be
-- edges of a solid, by what the views show. Grid points have the numbers of the box of grid cells.
use Rattle.std.specs.Prelude.{Bool, true, false, not, ◌&&◌, ◌||◌, List}
use Rattle.solid_model.specs.declared.cell.Axis.{Axis}
use Rattle.solid_model.specs.declared.cell.Cell.{Cell}
use Rattle.solid_model.specs.declared.frame.View.{View}
use Rattle.solid_model.specs.declared.frame.View.TheVariants.{Front, Top, Side}
use Rattle.solid_model.specs.declared.segment.Style.{Style}
use Rattle.solid_model.specs.declared.segment.Style.TheVariants.{Blank, Dashed, Solid}
use Rattle.solid_model.specs.Cells.{coordinate, cell_before, cell_after}
use Rattle.solid_model.specs.Panels.{GridParts, PanelStyles, styles_along}
use Rattle.solid_model.specs.PerView.{of_view}
use Rattle.std.specs.List.{list_any}
use Rattle.solid_model.specs.WalledBoxes.{same_axis}
use Rattle.solid_model.specs.GridBox.{axis_along, axis_across, grid_style}

-- ---- grid segments

abbrev pub is_blank_style : Style → Bool
is_blank_style Blank = true
is_blank_style Dashed = false
is_blank_style Solid = false

-- the view shows something on the level, or the upright, grid segment that begins where the grid point n projects
abbrev pub is_drawn_from : GridParts → View → Bool → Cell → Bool
is_drawn_from g v upright n =
    not (is_blank_style (grid_style g v upright (coordinate (axis_across v upright) n) (coordinate (axis_along v upright) n)))

-- some of these styles isn't Blank
abbrev pub is_some_drawn : List Style → Bool
is_some_drawn = list_any (λ style. not (is_blank_style style))

-- some segment of a view isn't Blank, level or upright
abbrev pub shows_something : PanelStyles → Bool
shows_something p = is_some_drawn (styles_along false p) || is_some_drawn (styles_along true p)

-- the view shows something: it isn't missing
abbrev pub is_drawn_view : GridParts → View → Bool
is_drawn_view g v = shows_something (of_view v g.panels)

-- ---- the wire frame

-- the point's projection is an end of such a segment that isn't blank
abbrev pub is_end_of_drawn : GridParts → View → Bool → Cell → Bool
is_end_of_drawn g v upright n = is_drawn_from g v upright n || is_drawn_from g v upright (cell_before (axis_along v upright) n)

-- it lies on some segment of the view that isn't blank, level or upright, or the view is missing
abbrev pub is_on_drawn : GridParts → Cell → View → Bool
is_on_drawn g n v = not (is_drawn_view g v) || (is_end_of_drawn g v false n || is_end_of_drawn g v true n)

-- a pseudo vertex: a grid point whose projections lie on segments that aren't blank, in each view that isn't missing
abbrev pub is_pseudo_vertex : GridParts → Cell → Bool
is_pseudo_vertex g n = is_on_drawn g n Front && (is_on_drawn g n Top && is_on_drawn g n Side)

-- the view shows something where the grid edge along an axis from the point n projects, or sees the edge as a point, or is missing
abbrev pub is_drawn_or_point : GridParts → Axis → Cell → View → Bool
is_drawn_or_point g a n v = not (is_drawn_view g v) || ((not (same_axis (axis_along v false) a) || is_drawn_from g v false n)
    && (not (same_axis (axis_along v true) a) || is_drawn_from g v true n))

-- A pseudo edge: a grid edge, from the point n along an axis, that is drawn in each of the two views that show it as a segment and
-- aren't missing, and whose ends are pseudo vertices. Beyond the box nothing is drawn, so there is none.
abbrev pub is_pseudo_edge : GridParts → Axis → Cell → Bool
is_pseudo_edge g a n = (is_drawn_or_point g a n Front && (is_drawn_or_point g a n Top && is_drawn_or_point g a n Side))
    && (is_pseudo_vertex g n && is_pseudo_vertex g (cell_after a n))
