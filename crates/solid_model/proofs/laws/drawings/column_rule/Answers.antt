-- Columns that part do so at an edge, and what is nearer than the first full depth of both hides nothing.
use Rattle.solid_model.proofs.ColumnRule.{columns_drawn}
use Rattle.solid_model.proofs.laws.drawings.column_rule.Goals as goal

pub returns : goal.returns
returns c = columns_drawn
