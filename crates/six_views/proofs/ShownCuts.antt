-- What a cut leaves of a solid is shown where the solid of the grid cells that stand for it is.
use Rattle.std.proofs.Common.{◌≡◌, ◌↔◌, Bool, true, false, ◌&&◌, List, Option, Some, None, ℤ, ap, sym, subst, ◌∙◌}
use Rattle.std.proofs.lemmas.Bool.{both_ways}
use Rattle.dxf_entities.specs.declared.layer.Cut.{Cut}
use Rattle.dxf_entities.specs.declared.layer.Layer.{Layer}
use Rattle.solid_model.specs.declared.cell.Cell.{Cell}
use Rattle.solid_model.specs.declared.frame.Frame.{Frame}
use Rattle.solid_model.specs.declared.frame.View.{View}
use Rattle.solid_model.specs.declared.segment.Segment.{Segment}
use Rattle.solid_model.specs.declared.segment.Style.{Style}
use Rattle.solid_model.specs.Cells.{is_full, SameCells}
use Rattle.solid_model.specs.Drawings.{drawing_of}
use Rattle.solid_model.specs.DrawnStyle.{drawn_style}
use Rattle.solid_model.specs.Frames.{IsFrame}
use Rattle.solid_model.specs.Grid.{Coordinates, IsUnionOf}
use Rattle.solid_model.specs.Line.{Line}
use Rattle.solid_model.specs.Moved.{IsMovedToZero}
use Rattle.solid_model.specs.Segments.{farther}
use Rattle.solid_model.proofs.Styles.{cell_beside_drawn, drawn_style_drawn, one_style, same_drawing}
use Rattle.further_views.specs.Further.{IsAsked}
use Rattle.section_laws.specs.LeftCells.{DrawsWhatIsLeft, LeavesNothing}
use Rattle.section_laws.specs.Sections.{is_behind, is_cut, left_by, visible_style}
use Rattle.section_laws.proofs.AreaDrawing.{full_area}
use Rattle.section_laws.proofs.CutDrawing.{full_cut}
use Rattle.six_views.specs.Fits.{Fits, ShowsCut, ShowsLayer, ShowsLeft, ShowsMoved}
use Rattle.six_views.specs.SightFrames.{sight_frame}
use Rattle.six_views.proofs.Turned.{sights_are_frames}

-- drawings that agree in a view are moved to the same
moved_alike : (d e shown : Segment → Style) (v : View) → ((g : Segment) → g.view ≡ v → e g ≡ d g) → IsMovedToZero d shown v → IsMovedToZero e shown v
moved_alike d e shown v same (right, up, at, is) = (
  right,
  up,
  record {
    stands_from = λ g of drawn. at.stands_from g of (λ blank. drawn (same g of ∙ blank));
    at_left = (let h = at.at_left in (h.0, h.1, (λ blank. h.2 (sym (same h.0 h.1) ∙ blank)), h.3));
    at_bottom = (let h = at.at_bottom in (h.0, h.1, (λ blank. h.2 (sym (same h.0 h.1) ∙ blank)), h.3));
  },
  λ g of. is g of ∙ sym (same (farther right up g) of),
)

module _ (f : Frame) (is : IsFrame f) (coordinates : Coordinates) (chosen : List Bool) (c : Cut) (s : List Cell) (union : IsUnionOf coordinates chosen (is_full s))
    (shown : Segment → Style) (v : View) where
  abbrev left : List Cell
  left = left_by f c.at c.area s

  -- the solid of these grid cells shows it whole
  pub left_shown : (kept : List Bool) → DrawsWhatIsLeft f coordinates chosen c.at c.area kept → (other : List Cell) → IsUnionOf coordinates kept (is_full other)
      → ShowsMoved f (is_full other) shown v ↔ ShowsLeft f c s shown v
  left_shown kept draws other union_too = (
    (λ whole. (
      drawn_style f left,
      (λ g of. drawn_style_drawn f is left g),
      moved_alike whole.0 (λ g. visible_style (drawn_style f left g)) shown v
          (λ g of. one_style f (is_full other) g _ _ (draws s other union union_too g _ (drawn_style_drawn f is left g)) (whole.1 g of)) whole.2,
    )),
    (λ cut. ((λ g. visible_style (cut.0 g)), (λ g of. draws s other union union_too g (cut.0 g) (cut.1 g of)), cut.2)),
  )

  -- where nothing is left nothing is shown
  pub nothing_shown : LeavesNothing f coordinates chosen c.at c.area → ShowsLeft f c s shown v → ⊥
  nothing_shown none (drawing, draws, (right, up, begins, moved)) =
      let at = begins.at_left in
      let beside = cell_beside_drawn f is (is_full left) at.0 (drawing at.0) (draws at.0 at.1) (λ blank. at.2 (ap visible_style blank)) in
      both_ways (is_full left beside.cell) (none s union beside.cell) beside.is_full

-- ---- what a layer shows

-- it shows what is the same in its view
pub shown_alike : (x : Layer) (s : List Cell) (shown other : Segment → Style) → ((g : Segment) → g.view ≡ x.view → other g ≡ shown g)
    → ShowsLayer x s shown → ShowsLayer x s other
shown_alike x s shown other alike = by x.cut
  where
    by : (cut : Option Cut) → ShowsCut cut (sight_frame x) s shown x.view → ShowsCut cut (sight_frame x) s other x.view
    by None (drawing, draws, (right, up, begins, same)) = (drawing, draws, (right, up, begins, λ g of. alike g of ∙ same g of))
    by (Some c) (drawing, draws, (right, up, begins, same)) = (drawing, draws, (right, up, begins, λ g of. alike g of ∙ same g of))

-- of the same cells the same is left
left_same : (f : Frame) → IsFrame f → (plane : ℤ) (area : Bool) (s t : List Cell) → SameCells s t → SameCells (left_by f plane area s) (left_by f plane area t)
left_same f is plane true s t same c = full_area f is plane s c ∙ ap (λ b. is_cut f plane c && b) (same c) ∙ sym (full_area f is plane t c)
left_same f is plane false s t same c = full_cut f is plane s c ∙ ap (λ b. is_behind f plane c && b) (same c) ∙ sym (full_cut f is plane t c)

-- so what a solid shows doesn't rest on its list's order and repeats
pub layer_same : (x : Layer) (s t : List Cell) → SameCells s t → (shown : Segment → Style) → ShowsLayer x s shown → ShowsLayer x t shown
layer_same x s t same shown = by x.cut
  where
    by : (cut : Option Cut) → ShowsCut cut (sight_frame x) s shown x.view → ShowsCut cut (sight_frame x) t shown x.view
    by None (drawing, draws, moved) = (drawing, (λ g of. same_drawing (sight_frame x) (is_full s) (is_full t) same g _ (draws g of)), moved)
    by (Some c) (drawing, draws, moved) = (
      drawing,
      (λ g of. same_drawing (sight_frame x) (is_full (left_by (sight_frame x) c.at c.area s))
          (is_full (left_by (sight_frame x) c.at c.area t)) (left_same (sight_frame x) (sights_are_frames x) c.at c.area s t same) g _ (draws g of)),
      moved,
    )

-- a layer that isn't cut shows the whole view
pub shows_uncut : (x : Layer) → x.cut ≡ None → (s : List Cell) (shown : Segment → Style) → ShowsLayer x s shown ↔ ShowsMoved (sight_frame x) (is_full s) shown x.view
shows_uncut x whole s shown = (
  subst (λ (cut : Option Cut). ShowsCut cut (sight_frame x) s shown x.view) whole,
  subst (λ (cut : Option Cut). ShowsCut cut (sight_frame x) s shown x.view) (sym whole),
)

-- so where none that is asked for is cut a solid fits whole views
pub fits_uncut : (further : Layer → List Line) → ((x : Layer) → IsAsked further x → x.cut ≡ None) → (s : List Cell)
    → Fits further s ↔ ((x : Layer) → IsAsked further x → ShowsMoved (sight_frame x) (is_full s) (drawing_of (further x)) x.view)
fits_uncut further whole s = (
  (λ fits. λ x asked. (shows_uncut x (whole x asked) s (drawing_of (further x))).0 (fits x asked)),
  (λ shows. λ x asked. (shows_uncut x (whole x asked) s (drawing_of (further x))).1 (shows x asked)),
)
