-- Where a cell differs from the one before it along an axis, each view that shows the axis has something drawn on the line
-- between them.
use Rattle.std.proofs.Common.{◌≢◌, inl, Bool, true, false, List, refl, ap, sym, subst, ◌∙◌}
use Rattle.solid_model.specs.declared.cell.Axis.{Axis}
use Rattle.solid_model.specs.declared.cell.Axis.TheVariants.{X, Y, Z}
use Rattle.solid_model.specs.declared.cell.Cell.{Cell}
use Rattle.solid_model.specs.declared.frame.View.{View}
use Rattle.solid_model.specs.declared.frame.View.TheVariants.{Front, Top, Side}
use Rattle.solid_model.specs.declared.segment.Segment.{Segment}
use Rattle.solid_model.specs.declared.segment.Style.TheVariants.{Blank}
use Rattle.solid_model.specs.Boxes.{place_of}
use Rattle.solid_model.specs.Cells.{coordinate, cell_before, is_full}
use Rattle.solid_model.specs.Columns.{cell_in}
use Rattle.solid_model.specs.Draws.{Draws}
use Rattle.solid_model.specs.DrawnStyle.{solid_drawing}
use Rattle.solid_model.specs.Frames.{frame_of, along, across}
use Rattle.solid_model.specs.Grid.{IsDrawnAcross, IsGridCoordinate}
use Rattle.solid_model.specs.Segments.{segment_at}
use Rattle.solid_model.proofs.ColumnRule.{beside_blank}
use Rattle.solid_model.proofs.InGrid.{StandsBefore}
use Rattle.solid_model.proofs.Styles.{drawn_style_drawn}
use Rattle.solid_model.proofs.Views.{views_are_frames, cell_at_its_places}

module _ (s : List Cell) where
  -- the segment between the two columns that they stand in isn't blank
  drawn_between : (v : View) (upright : Bool) (d c : Cell) → StandsBefore v upright d c → is_full s d ≢ is_full s c
      → solid_drawing s (segment_at v upright (place_of (along (frame_of v) upright) c) (place_of (across (frame_of v) upright) c)) ≢ Blank
  drawn_between v true d c at differ blank =
      let f = frame_of v in let is = views_are_frames v in
      let g : Segment = segment_at v true (place_of f.up c) (place_of f.right c) in
      differ (sym (ap (is_full s) (cell_at_its_places f is true d))
      ∙ (λ t. is_full s (cell_in f true (at.same_along t) (at.before t) (at.same_away t)))
      ∙ sym (beside_blank f is s g (subst (Draws f (is_full s) g) blank (drawn_style_drawn f is s g)) (place_of f.away c))
      ∙ ap (is_full s) (cell_at_its_places f is true c))
  drawn_between v false d c at differ blank =
      let f = frame_of v in let is = views_are_frames v in
      let g : Segment = segment_at v false (place_of f.right c) (place_of f.up c) in
      differ (sym (ap (is_full s) (cell_at_its_places f is false d))
      ∙ (λ t. is_full s (cell_in f false (at.same_along t) (at.before t) (at.same_away t)))
      ∙ sym (beside_blank f is s g (subst (Draws f (is_full s) g) blank (drawn_style_drawn f is s g)) (place_of f.away c))
      ∙ ap (is_full s) (cell_at_its_places f is false c))

  -- so something is drawn on the line between them
  pub drawn_across : (v : View) (upright : Bool) (c : Cell)
      → is_full s (cell_before (along (frame_of v) upright).axis c) ≢ is_full s c
      → IsDrawnAcross (solid_drawing s) v upright (coordinate (along (frame_of v) upright).axis c)
  drawn_across Front true c differ = (_, drawn_between Front false (cell_before Z c) c (record { same_along = refl; before = refl; same_away = refl }) differ)
  drawn_across Front false c differ = (_, drawn_between Front true (cell_before X c) c (record { same_along = refl; before = refl; same_away = refl }) differ)
  drawn_across Top true c differ = (_, drawn_between Top false (cell_before Y c) c (record { same_along = refl; before = refl; same_away = refl }) differ)
  drawn_across Top false c differ = (_, drawn_between Top true (cell_before X c) c (record { same_along = refl; before = refl; same_away = refl }) differ)
  drawn_across Side true c differ = (_, drawn_between Side false (cell_before Z c) c (record { same_along = refl; before = refl; same_away = refl }) differ)
  drawn_across Side false c differ = (_, drawn_between Side true (cell_before Y c) c (record { same_along = refl; before = refl; same_away = refl }) differ)

  -- and the plane between them stands at a grid coordinate
  pub coordinate_between : (a : Axis) (c : Cell) → is_full s (cell_before a c) ≢ is_full s c → IsGridCoordinate (solid_drawing s) a (coordinate a c)
  coordinate_between X c differ = (Front, false, refl, inl (drawn_across Front false c differ))
  coordinate_between Y c differ = (Side, false, refl, inl (drawn_across Side false c differ))
  coordinate_between Z c differ = (Front, true, refl, inl (drawn_across Front true c differ))
