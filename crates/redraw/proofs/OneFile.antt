-- A drawing has one written file.
use Rattle.std.proofs.Common.{◌≡◌, Bool, true, false, ℕ, List, sym, ◌∙◌}
use Rattle.solid_model.specs.declared.cell.Cell.{Cell}
use Rattle.solid_model.specs.declared.frame.View.{View}
use Rattle.solid_model.specs.declared.frame.View.TheVariants.{Front, Top, Side}
use Rattle.solid_model.specs.declared.segment.Segment.{Segment}
use Rattle.solid_model.specs.declared.segment.Style.{Style}
use Rattle.solid_model.specs.Cells.{is_full, SameCells}
use Rattle.solid_model.specs.DrawnStyle.{solid_drawing}
use Rattle.solid_model.specs.Frames.{frame_of}
use Rattle.solid_model.specs.Matching.{Matches}
use Rattle.solid_model.specs.Moved.{Shows}
use Rattle.solid_model.specs.Runs.{DrawingRuns, runs_along}
use Rattle.solid_model.specs.PerView.{of_view}
use Rattle.solid_model.proofs.GridMatching.{matching_draws_it}
use Rattle.solid_model.proofs.RunStyles.{same_styles_one_list, in_runs}
use Rattle.solid_model.proofs.Styles.{one_style, same_drawing, drawn_style_drawn}
use Rattle.solid_model.proofs.Views.{views_are_frames}
use Rattle.redraw.specs.Files.{AreRunsOf, IsFileOf, sheet_lines}
use Rattle.redraw.specs.Plain.{plain_file}
use Rattle.redraw.proofs.FarEnds.{one_farthest, far_end-is_farthest_line}

-- two drawings that are the same everywhere have the same runs
one_drawing_runs : (drawing other : Segment → Style) → ((g : Segment) → drawing g ≡ other g) → (d e : DrawingRuns) → AreRunsOf drawing d → AreRunsOf other e → d ≡ e
one_drawing_runs drawing other same d e h k = λ t. record {
  front = record { level = one Front false t; upright = one Front true t };
  top = record { level = one Top false t; upright = one Top true t };
  side = record { level = one Side false t; upright = one Side true t };
}
  where
    one : (v : View) (upright : Bool) → runs_along upright (of_view v d) ≡ runs_along upright (of_view v e)
    one v upright = same_styles_one_list _ _ (h.runs v upright) (k.runs v upright) (λ j z.
        sym (in_runs d v upright z j) ∙ h.show _ ∙ same _ ∙ sym (k.show _) ∙ in_runs e v upright z j)

-- solids that draw the same have one file
pub one_file : (s t : List Cell) → ((g : Segment) → solid_drawing s g ≡ solid_drawing t g) → (decimals : ℕ) (a b : List ℕ) → IsFileOf decimals s a → IsFileOf decimals t b → a ≡ b
one_file s t same decimals a b (far_x, far_z, d, sheet, text) (too_x, too_z, e, other, text_too) =
    let right = one_farthest (solid_drawing s) (solid_drawing t) same Front true far_x too_x (far_end-is_farthest_line Front true s far_x sheet.right) (far_end-is_farthest_line Front true t too_x other.right) in
    let up = one_farthest (solid_drawing s) (solid_drawing t) same Front false far_z too_z (far_end-is_farthest_line Front false s far_z sheet.up) (far_end-is_farthest_line Front false t too_z other.up) in
    let runs = one_drawing_runs (solid_drawing s) (solid_drawing t) same d e sheet.runs other.runs in
    text ∙ (λ i. plain_file decimals (sheet_lines (right i) (up i) (runs i))) ∙ sym text_too

-- lists of the same cells draw the same
pub same_cells-draw : (s t : List Cell) → SameCells s t → (g : Segment) → solid_drawing s g ≡ solid_drawing t g
same_cells-draw s t same g =
    let f = frame_of g.view in
    let is = views_are_frames g.view in
    one_style f (is_full t) g _ _ (same_drawing f (is_full s) (is_full t) same g _ (drawn_style_drawn f is s g)) (drawn_style_drawn f is t g)

-- so do solids that match one drawing that shows all three views
pub matching-draw : (drawing : Segment → Style) → ((v : View) → Shows drawing v) → (s t : List Cell) → Matches drawing s → Matches drawing t
    → (g : Segment) → solid_drawing s g ≡ solid_drawing t g
matching-draw drawing shown s t h k g = matching_draws_it drawing s h g (shown g.view) ∙ sym (matching_draws_it drawing t k g (shown g.view))
