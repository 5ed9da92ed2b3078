-- What the drawing of a file's lines keeps.
use Rattle.std.proofs.Common.{◌≡◌, ◌≢◌, Bool, List, [], Option, Some, None, MatchOption, IfNone, IfSome, refl, sym, ap, subst, ◌∙◌}
use Rattle.solid_model.specs.declared.frame.View.{View}
use Rattle.solid_model.specs.declared.frame.View.TheVariants.{Front, Top, Side}
use Rattle.solid_model.specs.declared.segment.Segment.{Segment}
use Rattle.solid_model.specs.Segments.{start_of, line_of}
use Rattle.solid_model.specs.Drawings.{covering_lines, drawing_of, IsEmptyView, IsShown}
use Rattle.solid_model.specs.Line.{Line, IsKept}
use Rattle.lemmas.specs.Lists.{Each}
use Rattle.solid_model.specs.Runs.{run_style, ViewRuns, DrawingRuns, runs_along, style_in, IsDrawing}
use Rattle.solid_model.specs.PerView.{of_view}
use Rattle.solid_model.proofs.KeptDrawings.{empty_is_blank, lines_are_drawing}
use Rattle.solid_model.proofs.Sheets.{empty-without_lines}

-- ---- views

-- the runs draw what the lines draw in the view
abbrev pub DrawsView : List Line → View → ViewRuns → Type 0
DrawsView ls v runs = (g : Segment) → g.view ≡ v → run_style (runs_along g.upright runs) (line_of g) (start_of g) ≡ drawing_of ls g

-- three views draw what the lines draw
pub views_draw : (ls : List Line) (d : DrawingRuns) → DrawsView ls Front d.front → DrawsView ls Top d.top → DrawsView ls Side d.side
    → (g : Segment) → style_in d g ≡ drawing_of ls g
views_draw ls d front top side g = by g.view refl
  where
    by : (v : View) → g.view ≡ v → run_style (runs_along g.upright (of_view v d)) (line_of g) (start_of g) ≡ drawing_of ls g
    by Front e = front g e
    by Top e = top g e
    by Side e = side g e

-- a view with a line that has length isn't empty
pub some_shown : (ls : List Line) → Each IsKept ls → (v : View) → covering_lines v ls ≢ [] → IsEmptyView ls v → ⊥
some_shown ls kept v some empty = some (empty-without_lines ls kept v empty)

-- the runs of a view draw what the lines draw there, none where it is missing
pub runs_draw : (ls : List Line) (v : View) (view : Option ViewRuns) (runs : ViewRuns) → MatchOption view (IsEmptyView ls v) (λ (own : ViewRuns). IsEmptyView ls v → ⊥)
    → IfSome view (DrawsView ls v) → IfSome view (λ own. runs ≡ own) → IfNone view ((upright : Bool) → runs_along upright runs ≡ []) → DrawsView ls v runs
runs_draw ls v None runs empty drawn is missing = λ g of.
    ap (λ rs. run_style rs (line_of g) (start_of g)) (missing g.upright) ∙ sym (empty_is_blank ls g (subst (IsEmptyView ls) (sym of) empty))
runs_draw ls v (Some own) runs shown drawn is missing = subst (DrawsView ls v) (sym is) drawn

-- ---- a drawing

-- runs that draw what a file's lines draw are a drawing, where no view is lacked
pub are_drawing : (two : Bool) (ls : List Line) (d : DrawingRuns) → ((g : Segment) → style_in d g ≡ drawing_of ls g) → Each IsKept ls → IsShown two ls
    → IsDrawing (style_in d)
are_drawing two ls d same kept shown = subst IsDrawing (λ i g. sym (same g) i) (lines_are_drawing two ls kept shown)
