-- A layer's whole view shows runs exactly where its own, told by the turned solid, are these, moved.
use Rattle.std.proofs.Common.{◌≡◌, ◌↔◌, Bool, true, List, [], ◌∷◌, Some, None, ℤ, refl, ◌∙◌}
use Rattle.solid_model.specs.declared.cell.Cell.{Cell}
use Rattle.solid_model.specs.declared.frame.View.{View}
use Rattle.solid_model.specs.declared.runs.Run.{Run}
use Rattle.solid_model.specs.declared.segment.Segment.{Segment}
use Rattle.solid_model.specs.Cells.{is_full, IsSolid}
use Rattle.solid_model.specs.DrawnStyle.{solid_drawing}
use Rattle.solid_model.specs.Runs.{AreRuns, ViewRuns, runs_along}
use Rattle.solid_model.proofs.Styles.{one_style}
use Rattle.dxf_entities.specs.declared.layer.Layer.{Layer}
use Rattle.six_views.specs.Fits.{ShowsMoved}
use Rattle.further_views.specs.Further.{view_style}
use Rattle.six_views.specs.SightFrames.{sight_frame}
use Rattle.six_views.specs.MovedRuns.{first_line, AreMovedRuns}
use Rattle.six_views.specs.Turned.{turned_cells}
use Rattle.six_views.proofs.FirstRuns.{solid_of_drawn, solid_of_run, first_there, begins_first}
use Rattle.six_views.proofs.MovedRuns.{shows_where_moved}
use Rattle.six_views.proofs.Turned.{sight_drawn}

module _ (x : Layer) (s : List Cell) (own : ViewRuns) (runs : (upright : Bool) → AreRuns (runs_along upright own))
    (show : (g : Segment) → g.view ≡ x.view → view_style own g ≡ solid_drawing (turned_cells x s) g) (shown : ViewRuns) where
  abbrev turned : List Cell
  turned = turned_cells x s

  abbrev v : View
  v = x.view

  abbrev Shows : Type 0
  Shows = ShowsMoved (sight_frame x) (is_full s) (view_style shown) v

  -- what shows something is a solid
  solid_that_shows : Shows → IsSolid turned
  solid_that_shows (drawing, draws, (right, up, begins, same)) =
      let at = begins.at_left in
      solid_of_drawn turned v own runs show at.0 at.1 (λ blank.
      at.2 (one_style (sight_frame x) (is_full s) at.0 _ _ (draws at.0 at.1) (sight_drawn x s at.0 at.1) ∙ blank))

  -- where there is no run nothing is shown
  pub shows_no_run : (upright : Bool) → first_line (runs_along upright own) ≡ None → Shows → ⊥
  shows_no_run upright none shows = first_there turned v own runs show (solid_that_shows shows) upright none

  -- where the first ones are told, what is shown is they, moved
  pub shows_moved : (right up : ℤ) → first_line own.upright ≡ Some right → first_line own.level ≡ Some up
      → (runs_too : (upright : Bool) → AreRuns (runs_along upright shown)) → AreMovedRuns right up shown own ↔ Shows
  shows_moved right up at_right at_up runs_too =
      let both = shows_where_moved (sight_frame x) (is_full s) v (solid_drawing turned) (sight_drawn x s) own shown runs runs_too show right up
      (begins_first turned v own runs show (solid own.upright refl) right up at_right at_up) in
      (both.1, both.0)
    where
      solid : (xs : List Run) → own.upright ≡ xs → IsSolid turned
      solid [] is = absurd cc
      solid (r ∷ rs) is = solid_of_run turned v own runs show true r rs is
