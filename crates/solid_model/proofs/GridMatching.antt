-- A union of grid cells matches the drawing where it draws what the grid shows.
use Rattle.std.proofs.Common.{◌≡◌, ◌≢◌, ◌↔◌, Bool, true, false, not, ◌||◌, List, [], ◌∷◌, ◌++◌, map, ℤ, pos, ◌<ℤ◌, IsTrue, refl, ap, sym, subst, ◌∙◌}
use Rattle.solid_model.specs.declared.cell.Axis.{Axis}
use Rattle.solid_model.specs.declared.cell.Axis.TheVariants.{X}
use Rattle.solid_model.specs.Moved.{Shows}
use Rattle.solid_model.specs.declared.cell.Cell.{Cell}
use Rattle.solid_model.specs.declared.frame.View.{View}
use Rattle.solid_model.specs.declared.frame.View.TheVariants.{Front, Top, Side}
use Rattle.solid_model.specs.declared.segment.Segment.{Segment}
use Rattle.solid_model.specs.declared.segment.Style.{Style}
use Rattle.solid_model.specs.declared.segment.Style.TheVariants.{Blank, Dashed, Solid}
use Rattle.solid_model.specs.Cells.{is_full}
use Rattle.solid_model.specs.Draws.{Draws}
use Rattle.solid_model.specs.DrawnStyle.{solid_drawing}
use Rattle.solid_model.specs.Frames.{frame_of, along, across}
use Rattle.solid_model.specs.Grid.{IsUnionOf}
use Rattle.lemmas.specs.Lists.{Ascends}
use Rattle.solid_model.specs.Matching.{Matches}
use Rattle.solid_model.specs.Panels.{PanelsStyles, styles_along, starts_of, grid_styles, AreGridStyles, GridParts, coordinates_of, IsGridOf}
use Rattle.std.specs.List.{list_any, flat_map}
use Rattle.std.proofs.lemmas.Bool.{false≢true}
use Rattle.solid_model.specs.Segments.{segment_at}
use Rattle.solid_model.specs.Wire.{is_blank_style, is_drawn_view}
use Rattle.solid_model.proofs.PseudoEdges.{view_drawn}
use Rattle.solid_model.specs.PerView.{of_view}
use Rattle.solid_model.proofs.OnGrid.{StaysOnGrid, on_own_grid}
use Rattle.solid_model.specs.Runs.{IsDrawing}
use Rattle.solid_model.proofs.Fullness.{solid_with}
use Rattle.solid_model.proofs.SameOnGrid.{same_everywhere}
use Rattle.solid_model.proofs.Styles.{one_style, drawn_style_drawn, HasCellBeside, cell_beside_drawn}
use Rattle.solid_model.proofs.UnionDrawing.{union_on_grid}
use Rattle.solid_model.proofs.Views.{views_are_frames}

-- a solid that matches a drawing has it as its computed drawing
pub matching_draws_it : (drawing : Segment → Style) (s : List Cell) → Matches drawing s → (g : Segment) → Shows drawing g.view → solid_drawing s g ≡ drawing g
matching_draws_it drawing s matches g shows =
    one_style (frame_of g.view) (is_full s) g _ _ (drawn_style_drawn (frame_of g.view) (views_are_frames g.view) s g) (matches.1 g shows)

-- a list of cells that draws what a drawing shows is a solid that matches it, since the drawing shows something
pub matches_from_drawing : (drawing : Segment → Style) → IsDrawing drawing → (s : List Cell) → ((g : Segment) → Shows drawing g.view → solid_drawing s g ≡ drawing g) → Matches drawing s
matches_from_drawing drawing is s same = (solid_with s beside.cell beside.is_full, draws)
  where
    draws : (g : Segment) → Shows drawing g.view → Draws (frame_of g.view) (is_full s) g (drawing g)
    draws g shows = subst (Draws (frame_of g.view) (is_full s) g) (same g shows) (drawn_style_drawn (frame_of g.view) (views_are_frames g.view) s g)

    some : (g : Segment) × (drawing g ≢ Blank)
    some = let at = (is.sees X).3 in (at.0, at.2)

    beside : HasCellBeside (frame_of some.0.view) (views_are_frames some.0.view) (is_full s) some.0
    beside = cell_beside_drawn (frame_of some.0.view) (views_are_frames some.0.view) (is_full s) some.0 (drawing some.0) (draws some.0 (some.0, refl, some.1)) some.1

none_drawn : (xs ys : List Style) → list_any (λ s. not (is_blank_style s)) (xs ++ ys) ≡ false
    → (list_any (λ s. not (is_blank_style s)) xs ≡ false) × (list_any (λ s. not (is_blank_style s)) ys ≡ false)
none_drawn [] ys e = (refl, e)
none_drawn (Blank ∷ xs) ys e = none_drawn xs ys e
none_drawn (Dashed ∷ xs) ys e = absurd (false≢true (sym e))
none_drawn (Solid ∷ xs) ys e = absurd (false≢true (sym e))

blank_line : (f : ℤ → Style) (zs : List ℤ) → list_any (λ s. not (is_blank_style s)) (map f zs) ≡ false → map f zs ≡ map (λ z. Blank) zs
blank_line f [] e = refl
blank_line f (z ∷ zs) e = by (f z) refl (blank_line f zs)
  where
    by : (style : Style) → f z ≡ style → (list_any (λ s. not (is_blank_style s)) (map f zs) ≡ false → map f zs ≡ map (λ y. Blank) zs) → map f (z ∷ zs) ≡ map (λ y. Blank) (z ∷ zs)
    by Blank h later = λ t. h t ∷ later (sym (ap (λ s. not (is_blank_style s) || list_any (λ s. not (is_blank_style s)) (map f zs)) h) ∙ e) t
    by Dashed h later = absurd (false≢true (sym e ∙ ap (λ s. not (is_blank_style s) || list_any (λ s. not (is_blank_style s)) (map f zs)) h))
    by Solid h later = absurd (false≢true (sym e ∙ ap (λ s. not (is_blank_style s) || list_any (λ s. not (is_blank_style s)) (map f zs)) h))

blank_lines : (f : ℤ → ℤ → Style) (zs ls : List ℤ) → list_any (λ s. not (is_blank_style s)) (flat_map (λ l. map (f l) zs) ls) ≡ false
    → flat_map (λ l. map (f l) zs) ls ≡ flat_map (λ l. map (λ z. Blank) zs) ls
blank_lines f zs [] e = refl
blank_lines f zs (l ∷ ls) e =
    let parts = none_drawn (map (f l) zs) (flat_map (λ l. map (f l) zs) ls) e in
    λ t. blank_line (f l) zs parts.0 t ++ blank_lines f zs ls parts.1 t

module _ (drawing : Segment → Style) (is : IsDrawing drawing) (g : GridParts) (grid : IsGridOf drawing g) where
  ascends : (a : Axis) → Ascends ◌<ℤ◌ (coordinates_of g a)
  ascends a = (grid.coordinates a).ordered

  stays : StaysOnGrid (coordinates_of g) drawing
  stays = on_own_grid drawing is (coordinates_of g) grid.coordinates

  -- a grid determines its drawing
  pub one_drawing : (other : Segment → Style) → IsDrawing other → IsGridOf other g → (s : Segment) → drawing s ≡ other s
  one_drawing other is_too grid_too s = same_everywhere (coordinates_of g) ascends drawing other stays
      (on_own_grid other is_too (coordinates_of g) grid_too.coordinates) s.view (λ upright. sym (grid.styles s.view upright) ∙ grid_too.styles s.view upright) s refl

  all_blank : (v : View) (upright : Bool) → is_drawn_view g v ≡ false → grid_styles drawing (coordinates_of g) v upright ≡ grid_styles (λ h. Blank) (coordinates_of g) v upright
  all_blank v upright e = blank_lines (λ l z. drawing (segment_at v upright z l)) (starts_of (coordinates_of g (along (frame_of v) upright).axis)) (coordinates_of g (across (frame_of v) upright).axis)
      (ap (list_any (λ s. not (is_blank_style s))) (sym (grid.styles v upright)) ∙ blank upright)
    where
      both : (a b : Bool) → (a || b) ≡ false → (a ≡ false) × (b ≡ false)
      both true b h = absurd (false≢true (sym h))
      both false b h = (refl, h)

      blank : (u : Bool) → list_any (λ s. not (is_blank_style s)) (styles_along u (of_view v g.panels)) ≡ false
      blank true = (both (list_any (λ s. not (is_blank_style s)) (styles_along false (of_view v g.panels))) (list_any (λ s. not (is_blank_style s)) (styles_along true (of_view v g.panels))) e).1
      blank false = (both (list_any (λ s. not (is_blank_style s)) (styles_along false (of_view v g.panels))) (list_any (λ s. not (is_blank_style s)) (styles_along true (of_view v g.panels))) e).0

  -- a view that the drawing shows isn't missing from its grid
  pub shown_drawn : (v : View) → Shows drawing v → is_drawn_view g v ≡ true
  shown_drawn v shows = by (is_drawn_view g v) refl
    where
      by : (t : Bool) → is_drawn_view g v ≡ t → t ≡ true
      by true e = refl
      by false e = absurd (shows.2 (subst (λ h. drawing h ≡ Blank) refl (same_everywhere (coordinates_of g) ascends drawing (λ h. Blank) stays
          (record { off_lines = λ w u start line none. refl; off_ends = λ w u start line none. refl; steady = λ w u n start other line p q. refl }) v
          (λ upright. all_blank v upright e) shows.0 shows.1)))

  -- the union of grid cells that draws what the grid shows matches, and no other
  pub matching_on_grid : (chosen : List Bool) (s : List Cell) → IsUnionOf (coordinates_of g) chosen (is_full s)
      → (panels : PanelsStyles) → AreGridStyles (solid_drawing s) (coordinates_of g) panels
      → ((v : View) (upright : Bool) → IsTrue (is_drawn_view g v) → styles_along upright (of_view v panels) ≡ styles_along upright (of_view v g.panels)) ↔ Matches drawing s
  matching_on_grid chosen s union panels drawn = (
    (λ same. matches_from_drawing drawing is s (λ h shows. same_everywhere (coordinates_of g) ascends (solid_drawing s) drawing
        (union_on_grid (coordinates_of g) ascends chosen s union) stays h.view
        (λ upright. sym (drawn h.view upright) ∙ same h.view upright (shown_drawn h.view shows) ∙ grid.styles h.view upright) h refl)),
    (λ matches v upright shown. drawn v upright
        ∙ same_styles v upright (view_drawn drawing g grid v shown) matches ∙ sym (grid.styles v upright)),
  )
    where
      same_styles : (v : View) (upright : Bool) → Shows drawing v → Matches drawing s
          → grid_styles (solid_drawing s) (coordinates_of g) v upright ≡ grid_styles drawing (coordinates_of g) v upright
      same_styles v true shows matches t = flat_map (λ l. map (λ z. matching_draws_it drawing s matches (segment_at v true z l) shows t) (starts_of (coordinates_of g (along (frame_of v) true).axis))) (coordinates_of g (across (frame_of v) true).axis)
      same_styles v false shows matches t = flat_map (λ l. map (λ z. matching_draws_it drawing s matches (segment_at v false z l) shows t) (starts_of (coordinates_of g (along (frame_of v) false).axis))) (coordinates_of g (across (frame_of v) false).axis)
