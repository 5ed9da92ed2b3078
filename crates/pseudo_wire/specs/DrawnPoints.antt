-- The points at which a view shows something are marked first, and the pseudo edges are found by these marks.
use Rattle.std.specs.Prelude.{Bool, ◌&&◌, ◌+◌, pos, IsTrue}
use Rattle.solid_model.specs.declared.cell.Axis.{Axis}
use Rattle.solid_model.specs.declared.cell.Axis.TheVariants.{X, Y, Z}
use Rattle.solid_model.specs.declared.cell.Cell.{Cell}
use Rattle.solid_model.specs.declared.frame.View.{View}
use Rattle.solid_model.specs.declared.frame.View.TheVariants.{Front, Top, Side}
use Rattle.solid_model.specs.declared.per_view.PerView.{PerView}
use Rattle.solid_model.specs.Cells.{cell_after, placed}
use Rattle.solid_model.specs.Frames.{frame_of}
use Rattle.solid_model.specs.GridBox.{grid_sizes}
use Rattle.solid_model.specs.Marks.{BoxMarks, is_marked, AreMarksOf}
use Rattle.solid_model.specs.Panels.{GridParts}
use Rattle.solid_model.specs.PerAxis.{by_axis, numbered}
use Rattle.solid_model.specs.PerView.{of_view}
use Rattle.solid_model.specs.WalledBoxes.{Sizes}
use Rattle.solid_model.specs.Wire.{is_on_drawn, is_drawn_or_point}

-- The points of a box's cells are a box too. The point n is the least corner of the cell n.
abbrev pub point_sizes : Sizes → Sizes
point_sizes sizes = by_axis (sizes X + 1) (sizes Y + 1) (sizes Z + 1)

-- the points of a view are such a box that is one point deep
abbrev pub view_sizes : Sizes → View → Sizes
view_sizes sizes v = numbered (frame_of v).away.axis 1 (point_sizes sizes)

-- the point of a view on which a point projects
abbrev pub projected : View → Cell → Cell
projected v n = placed (frame_of v).away.axis (pos 0) n

-- what is marked are the points at which the view shows something, all where it is missing
abbrev pub AreDrawnIn : GridParts → View → BoxMarks → Type 0
AreDrawnIn g v marks = AreMarksOf (view_sizes (grid_sizes g) v) (λ n. IsTrue (is_on_drawn g n v)) marks

-- that is so in each view
abbrev pub AreDrawnPoints : GridParts → PerView BoxMarks → Type 0
AreDrawnPoints g points = (v : View) → AreDrawnIn g v (of_view v points)

-- the point on which a point projects in a view has a mark
abbrev pub is_marked_in : PerView BoxMarks → View → Cell → Bool
is_marked_in points v n = is_marked (of_view v points) (projected v n)

-- it has one in each view
abbrev pub is_marked_point : PerView BoxMarks → Cell → Bool
is_marked_point points n = is_marked_in points Front n && (is_marked_in points Top n && is_marked_in points Side n)

-- a grid edge, from the point n along an axis, that is drawn in each of the two views that show it as a segment, and whose ends
-- have such marks
abbrev pub is_marked_edge : GridParts → PerView BoxMarks → Axis → Cell → Bool
is_marked_edge g points a n = (is_drawn_or_point g a n Front && (is_drawn_or_point g a n Top && is_drawn_or_point g a n Side))
    && (is_marked_point points n && is_marked_point points (cell_after a n))
