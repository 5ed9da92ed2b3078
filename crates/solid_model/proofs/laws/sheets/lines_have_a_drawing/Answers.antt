-- Each view begins at 0 and reaches no farther than its lines do.
use Rattle.solid_model.proofs.KeptDrawings.{lines_are_drawing}
use Rattle.solid_model.proofs.laws.sheets.lines_have_a_drawing.Goals as goal

pub returns : goal.returns
returns c = lines_are_drawing
