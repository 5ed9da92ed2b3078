-- A written file reads back as the drawing of its solid.
use Rattle.std.proofs.Common.{◌≡◌, ℕ, Bool, false, ◌≤◌, List, ℤ, pos, ◌≤ℤ◌, length, ◌∙◌, refl, arith}
use Rattle.std.proofs.lemmas.Int.{ints}
use Rattle.solid_model.specs.declared.cell.Cell.{Cell}
use Rattle.solid_model.specs.declared.frame.View.{View}
use Rattle.solid_model.specs.declared.segment.Segment.{Segment}
use Rattle.solid_model.specs.Cells.{is_full, IsSolid}
use Rattle.solid_model.specs.Drawings.{drawing_of, IsShown}
use Rattle.solid_model.specs.DrawnStyle.{solid_drawing}
use Rattle.solid_model.specs.Grid.{IsUnionOf}
use Rattle.solid_model.specs.Limits.{farthest_on_sheet, most_decimals}
use Rattle.solid_model.specs.Line.{Line, IsKept, IsNear}
use Rattle.lemmas.specs.Lists.{Each}
use Rattle.solid_model.specs.Moved.{IsMovedToZero}
use Rattle.solid_model.specs.Panels.{GridParts, coordinates_of, IsGrid}
use Rattle.solid_model.specs.Runs.{DrawingRuns, IsDrawing}
use Rattle.lemmas.proofs.Lists.{each-both, each-weaker}
use Rattle.solid_model.proofs.Moved.{moved_already, one_moved}
use Rattle.redraw.specs.Files.{sheet_lines, IsSheetOf}
use Rattle.redraw.specs.Plain.{plain_file}
use Rattle.redraw.specs.Sheets.{IsNotNegative, IsDrawnLine}
use Rattle.redraw.proofs.FewLines.{few_on_grid, not_negative_on_grid, lines_drawn}
use Rattle.redraw.proofs.SheetDrawing.{sheet_shown, sheet_moved}
use Rattle.redraw.proofs.SolidBegins.{solid_begins}
use Rattle.read_back.specs.ReadBack.{numbered_from, IsInReach, ReadsBack}
use Rattle.read_back.proofs.Lengths.{plain_is_short}
use Rattle.read_back.proofs.LinesRead.{plain_is_read}
use Rattle.read_back.proofs.Renumbered.{drawing_still, shown_still}

-- a number that isn't negative and within reach is near
near_from : (z : ℤ) → pos 0 ≤ℤ z → z ≤ℤ pos farthest_on_sheet → IsNear z
near_from z from to = (omega (arith, ints), to)

-- a line that is drawn, not negative and within reach may be kept
kept_from : (l : Line) → IsDrawnLine l × (IsNotNegative l × IsInReach l) → IsKept l
kept_from l (drawn, (from, to)) = record {
  straight = drawn.straight;
  drawn = drawn.drawn;
  near_x0 = near_from l.x0 from.x0 to.x0;
  near_y0 = near_from l.y0 from.y0 to.y0;
  near_x1 = near_from l.x1 from.x1 to.x1;
  near_y1 = near_from l.y1 from.y1 to.y1;
}

-- few lines that may be kept, and draw the solid, are read back as its drawing
plain_reads_back : (decimals : ℕ) (s : List Cell) (lines : List Line) → decimals ≤ most_decimals → Each IsKept lines → length lines ≤ 24576
    → IsShown false lines → ((v : View) → IsMovedToZero (solid_drawing s) (drawing_of lines) v)
    → ReadsBack decimals s (plain_file decimals lines)
plain_reads_back decimals s lines fits kept few shown drawing = record {
  short = omega (arith, plain_is_short decimals lines fits kept);
  lines = numbered_from 5 lines;
  reads = plain_is_read decimals lines kept (omega arith);
  shown = shown_still 5 lines shown;
  drawing = λ v.
      let (right, up, begins, same) = drawing v in
      (right, up, begins, λ g of. drawing_still 5 lines g ∙ same g of);
}

-- the written file of a union of grid cells reads back, where its lines are within reach
pub written_reads_back : (decimals : ℕ) → decimals ≤ most_decimals → (g : GridParts) → IsGrid g → (chosen : List Bool) (s : List Cell)
    → IsSolid s → IsUnionOf (coordinates_of g) chosen (is_full s)
    → (far_x far_z : ℤ) (d : DrawingRuns) → IsSheetOf s far_x far_z d
    → Each IsInReach (sheet_lines far_x far_z d)
    → ReadsBack decimals s (plain_file decimals (sheet_lines far_x far_z d))
written_reads_back decimals fits g is chosen s solid union far_x far_z d sheet reach =
    let lines = sheet_lines far_x far_z d in
    let drawn = lines_drawn s far_x far_z d sheet in
    let from = not_negative_on_grid g is chosen s union far_x far_z d sheet in
    let within = each-both IsNotNegative IsInReach lines from reach in
    let all = each-both IsDrawnLine (λ l. IsNotNegative l × IsInReach l) lines drawn within in
    plain_reads_back decimals s lines fits (each-weaker _ IsKept lines kept_from all)
    (few_on_grid g is chosen s union far_x far_z d sheet)
    (sheet_shown far_x far_z d (solid_drawing s) sheet.runs (solid_begins s solid))
    (λ v. let (right, up, begins) = solid_begins s solid v in
    sheet_moved far_x far_z d (solid_drawing s) sheet.runs v right up begins)

-- where the solid's drawing begins at 0, this very drawing is read
pub drawing_as_it_is : (decimals : ℕ) (s : List Cell) (text : List ℕ) → IsDrawing (solid_drawing s)
    → (back : ReadsBack decimals s text) (g : Segment) → drawing_of back.lines g ≡ solid_drawing s g
drawing_as_it_is decimals s text is back g =
    let (right, up, begins, same) = back.drawing g.view in
    let (h, of, drawn, left) = begins.at_left in
    one_moved (solid_drawing s) (drawing_of back.lines) (solid_drawing s) g.view
    (back.drawing g.view) (moved_already (solid_drawing s) g.view (is.begins g.view (h, of, drawn))) g refl
