use Rattle.column_laws.proofs.DrawnDemands.{met_by_drawing}
use Rattle.column_laws.proofs.laws.lines_are_met_by_drawings.Goals as goal

pub returns : goal.returns
returns c = λ p is known l. met_by_drawing p is.sized known l
