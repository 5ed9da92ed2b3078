-- A solid draws something in each view, and the sheet shows what the runs of its drawing show.
use Rattle.solid_model.specs.DrawnStyle.{solid_drawing}
use Rattle.redraw.proofs.SheetDrawing.{sheet_shown, sheet_moved}
use Rattle.redraw.proofs.SolidBegins.{solid_begins}
use Rattle.redraw.proofs.laws.lines.sheet_lines_draw_the_solid.Goals as goal

pub returns-clause-shown : goal.returns-clause-shown
returns-clause-shown c s solid far_x far_z d sheet = sheet_shown far_x far_z d (solid_drawing s) sheet.runs (solid_begins s solid)

pub returns-clause-drawing : goal.returns-clause-drawing
returns-clause-drawing c s solid far_x far_z d sheet v =
    let (right, up, begins) = solid_begins s solid v in
    sheet_moved far_x far_z d (solid_drawing s) sheet.runs v right up begins
