-- A grid edge that is an edge of a matching solid is drawn in both views that show it as a segment.
use Rattle.std.proofs.Common.{◌≡◌, ◌≢◌, Bool, true, false, not, List, ℤ, refl, ap, ◌∙◌}
use Rattle.solid_model.specs.declared.cell.Axis.{Axis}
use Rattle.solid_model.specs.declared.cell.Cell.{Cell}
use Rattle.solid_model.specs.declared.frame.View.{View}
use Rattle.solid_model.specs.declared.segment.Segment.{Segment}
use Rattle.solid_model.specs.declared.segment.Style.{Style}
use Rattle.solid_model.specs.declared.segment.Style.TheVariants.{Blank, Dashed, Solid}
use Rattle.solid_model.specs.Cells.{coordinate, is_full}
use Rattle.solid_model.specs.Edges.{AreAcross, is_edge}
use Rattle.solid_model.specs.Frames.{frame_of, point_on, at_places}
use Rattle.solid_model.specs.Matching.{Matches}
use Rattle.solid_model.specs.Moved.{Shows}
use Rattle.solid_model.specs.Panels.{GridParts, coordinates_of, IsGridOf}
use Rattle.solid_model.specs.Segments.{segment_at}
use Rattle.solid_model.specs.Wire.{is_blank_style, is_drawn_from}
use Rattle.solid_model.specs.GridBox.{axis_along, axis_across, IsGridFullness}
use Rattle.solid_model.proofs.Gaps.{member_of}
use Rattle.solid_model.proofs.GridFullness.{IsEdgeWithin, edge_within, unit_edge}
use Rattle.solid_model.proofs.GridStyle.{grid_style-at}
use Rattle.solid_model.proofs.Styles.{edge_not_blank}
use Rattle.solid_model.proofs.Views.{views_are_frames, across_along, at_own_coordinates, has_edge_from}

not_blank : (style : Style) → style ≢ Blank → not (is_blank_style style) ≡ true
not_blank Blank drawn = absurd (drawn refl)
not_blank Dashed drawn = refl
not_blank Solid drawn = refl

module _ (drawing : Segment → Style) (s : List Cell) (matches : Matches drawing s) where
  -- a view draws something on the unit segment on which an edge of the solid projects
  unit_drawn : (v : View) (upright : Bool) (i j k : ℤ) → Shows drawing v
      → is_edge (is_full s) (axis_along v upright) (at_places (axis_along v upright) i (axis_across v upright) j (frame_of v).away.axis k) ≡ true
      → drawing (segment_at v upright i j) ≢ Blank
  unit_drawn v true i j k shows edge =
      edge_not_blank (frame_of v) (is_full s) (segment_at v true i j) (drawing (segment_at v true i j)) (matches.1 (segment_at v true i j) shows)
      (point_on (frame_of v).away k) (has_edge_from (is_full s) v true i j k ∙ edge)
  unit_drawn v false i j k shows edge =
      edge_not_blank (frame_of v) (is_full s) (segment_at v false i j) (drawing (segment_at v false i j)) (matches.1 (segment_at v false i j) shows)
      (point_on (frame_of v).away k) (has_edge_from (is_full s) v false i j k ∙ edge)

module _ (drawing : Segment → Style) (g : GridParts) (grid : IsGridOf drawing g) (s : List Cell) (matches : Matches drawing s)
    (full : Cell → Bool) (counts : IsGridFullness g s full) where
  -- so the grid segment on which a grid edge projects isn't blank, by its first unit segment
  pub edge_drawn : (v : View) (upright : Bool) (n : Cell) → Shows drawing v → is_edge full (axis_along v upright) n ≡ true → is_drawn_from g v upright n ≡ true
  edge_drawn v upright n shows edge =
      ap (λ style. not (is_blank_style style)) (grid_style-at drawing g grid.styles v upright j i within.at_second within.at_first)
      ∙ not_blank _ (unit_drawn drawing s matches v upright (at a i) (at b j) (at c k) shows
      (unit_edge drawing g grid s matches full counts a b c across i j k placed))
    where
      a : Axis
      a = axis_along v upright

      b : Axis
      b = axis_across v upright

      c : Axis
      c = (frame_of v).away.axis

      across : AreAcross a b c
      across = across_along (frame_of v) (views_are_frames v) upright

      i : ℤ
      i = coordinate a n

      j : ℤ
      j = coordinate b n

      k : ℤ
      k = coordinate c n

      at : Axis → ℤ → ℤ
      at x z = member_of (coordinates_of g x) z

      placed : is_edge full a (at_places a i b j c k) ≡ true
      placed = ap (is_edge full a) (at_own_coordinates n a b c across) ∙ edge

      within : IsEdgeWithin drawing g grid s matches full counts a b c across i j k
      within = edge_within drawing g grid s matches full counts a b c across i j k placed
