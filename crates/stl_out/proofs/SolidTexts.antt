-- A solid has one STL text, and what is written of the grid cells that a choice fills is that of the solid which they make up.
use Rattle.std.proofs.Common.{◌≡◌, ◌≢◌, ⊎_elim, inl, inr, Bool, true, false, not, ℕ, List, ℤ, pos, ◌-ℤ◌, ◌<ℤ◌, refl, sym, ◌∙◌, subst}
use Rattle.face_laws.specs.GridFaces.{LiesInNumbered, grid_planes, numbered_fullness, point_of_numbers}
use Rattle.face_laws.proofs.GridLines.{on_line}
use Rattle.face_laws.proofs.GridPlanes.{planes_rise, union_cells}
use Rattle.solid_model.specs.declared.cell.Axis.{Axis}
use Rattle.solid_model.specs.declared.cell.Axis.TheVariants.{X, Y, Z}
use Rattle.solid_model.specs.declared.cell.Cell.{Cell}
use Rattle.solid_model.specs.declared.frame.View.{View}
use Rattle.solid_model.specs.declared.segment.Segment.{Segment}
use Rattle.solid_model.specs.declared.segment.Style.{Style}
use Rattle.solid_model.specs.declared.segment.Style.TheVariants.{Blank}
use Rattle.solid_model.specs.Cells.{is_full}
use Rattle.solid_model.specs.DrawnStyle.{solid_drawing}
use Rattle.solid_model.specs.Grid.{Coordinates, IsGridCoordinate, AreGridCoordinates, IsUnionOf}
use Rattle.lemmas.specs.Lists.{Ascends}
use Rattle.solid_model.specs.Matching.{Matches}
use Rattle.solid_model.specs.Moved.{Shows}
use Rattle.solid_model.specs.Segments.{segment_at}
use Rattle.solid_model.proofs.GridMatching.{matching_draws_it}
use Rattle.solid_model.proofs.InGrid.{blank_or_drawn, one_coordinates}
use Rattle.solid_model.proofs.StayingOnGrid.{coordinate_on_grid}
use Rattle.solid_model.proofs.UnionDrawing.{union_on_grid}
use Rattle.stl_out.specs.Rectangles.{AreRectanglesOf, all_triangles}
use Rattle.stl_out.specs.SolidStl.{grid_fullness, IsSolidStl}
use Rattle.stl_out.specs.StlText.{stl_text, IsStlOf}
use Rattle.stl_out.proofs.RectangleOrder.{one_list}
use Rattle.stl_out.proofs.SomeRectangles.{some_rectangles}

-- a solid has one text
pub one_text : (s : List Cell) (text other : List ℕ) → IsSolidStl s text → IsSolidStl s other → text ≡ other
one_text s text other (zs, are, rs, all, is) (ws, are_too, ss, all_too, is_too) =
    let same : zs ≡ ws = λ i a. one_coordinates (solid_drawing s) a (zs a) (ws a) (are a) (are_too a) i in
    let one : rs ≡ ss = one_list (grid_fullness ws (is_full s)) rs ss
    (subst (λ (cs : Coordinates). AreRectanglesOf (grid_fullness cs (is_full s)) rs) same all) all_too in
    is ∙ (λ i. stl_text (all_triangles (grid_planes (same i)) (one i))) ∙ sym is_too

module _ (coordinates : Coordinates) (ascends : (a : Axis) → Ascends ◌<ℤ◌ (coordinates a)) where
  -- the least corner of a grid cell lies in it
  corner_lies : (n : Cell) → LiesInNumbered (grid_planes coordinates) n (point_of_numbers (grid_planes coordinates) n)
  corner_lies n X = let l = on_line (grid_planes coordinates X) (planes_rise (coordinates X) (ascends X)) n.x in (l.low, l.high)
  corner_lies n Y = let l = on_line (grid_planes coordinates Y) (planes_rise (coordinates Y) (ascends Y)) n.y in (l.low, l.high)
  corner_lies n Z = let l = on_line (grid_planes coordinates Z) (planes_rise (coordinates Z) (ascends Z)) n.z in (l.low, l.high)

  -- so of a union those grid cells are full that are chosen
  union_fullness : (chosen : List Bool) (full : Cell → Bool) → IsUnionOf coordinates chosen full
      → grid_fullness coordinates full ≡ numbered_fullness coordinates chosen
  union_fullness chosen full union = λ i n. union_cells coordinates ascends chosen full union n (point_of_numbers (grid_planes coordinates) n) (corner_lies n) i

module _ (drawing : Segment → Style) (coordinates : Coordinates) (are : (a : Axis) → AreGridCoordinates drawing a (coordinates a)) (s : List Cell)
    (matches : Matches drawing s) (chosen : List Bool) (union : IsUnionOf coordinates chosen (is_full s)) where
  -- in a view that isn't missing the drawing is the solid's own
  own_style : (v : View) → Shows drawing v → (upright : Bool) (start line : ℤ)
      → solid_drawing s (segment_at v upright start line) ≡ drawing (segment_at v upright start line)
  own_style v shows true start line = matching_draws_it drawing s matches (segment_at v true start line) shows
  own_style v shows false start line = matching_draws_it drawing s matches (segment_at v false start line) shows

  drawn_shows : (v : View) (upright : Bool) (start line : ℤ) → drawing (segment_at v upright start line) ≢ Blank → Shows drawing v
  drawn_shows v true start line drawn = (segment_at v true start line, refl, drawn)
  drawn_shows v false start line drawn = (segment_at v false start line, refl, drawn)

  -- where the style changes one of the two segments isn't blank
  change_shows : (v : View) (upright : Bool) (before start line : ℤ)
      → drawing (segment_at v upright before line) ≢ drawing (segment_at v upright start line) → Shows drawing v
  change_shows v upright before start line differ = ⊎_elim {C = Shows drawing v}
      (λ first. ⊎_elim {C = Shows drawing v} (λ second. absurd (differ (first ∙ sym second))) (drawn_shows v upright start line)
      (blank_or_drawn (drawing (segment_at v upright start line))))
      (drawn_shows v upright before line) (blank_or_drawn (drawing (segment_at v upright before line)))

  -- So a grid coordinate of the drawing is one of the solid's own.
  own_coordinate : (a : Axis) (z : ℤ) → IsGridCoordinate drawing a z → IsGridCoordinate (solid_drawing s) a z
  own_coordinate a z (v, upright, e, inl (start, drawn)) =
      (v, upright, e, inl (start, λ blank. drawn (sym (own_style v (drawn_shows v (not upright) start z drawn) (not upright) start z) ∙ blank)))
  own_coordinate a z (v, upright, e, inr (line, differ)) =
      let shows = change_shows v upright (z -ℤ pos 1) z line differ in
      (v, upright, e, inr (line, λ same. differ (sym (own_style v shows upright (z -ℤ pos 1) line) ∙ same ∙ own_style v shows upright z line)))

  -- The grid of a drawing that a solid matches is that of the solid's own drawing. (What the solid draws in a view that is missing
  -- stays on that grid, since the solid is a union of its cells.)
  own_coordinates : (a : Axis) → AreGridCoordinates (solid_drawing s) a (coordinates a)
  own_coordinates a = record {
    ordered = (are a).ordered;
    exact = λ z. (
      (λ k. own_coordinate a z (((are a).exact z).0 k)),
      coordinate_on_grid coordinates (λ b. (are b).ordered) (solid_drawing s)
          (union_on_grid coordinates (λ b. (are b).ordered) chosen s union) a z,
    );
  }

  pub same_cells : grid_fullness coordinates (is_full s) ≡ numbered_fullness coordinates chosen
  same_cells = union_fullness coordinates (λ a. (are a).ordered) chosen (is_full s) union

  -- the text of the grid cells that a solid fills is its text
  pub text_of_union : (text : List ℕ) → IsStlOf coordinates chosen text → IsSolidStl s text
  text_of_union text (ts, (rs, all, of), is) =
      (coordinates, own_coordinates, rs, subst (λ (full : Cell → Bool). AreRectanglesOf full rs) (sym same_cells) all, is ∙ (λ i. stl_text (of i)))

  -- so it has one
  pub some_text : (text : List ℕ) × IsSolidStl s text
  some_text =
      let (rs, all) = some_rectangles coordinates chosen in
      let text = stl_text (all_triangles (grid_planes coordinates) rs) in
      (text, text_of_union text (all_triangles (grid_planes coordinates) rs, (rs, all, refl), refl))
