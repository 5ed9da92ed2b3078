-- The next number is the next cell.
use Rattle.solid_model.proofs.Numbers.{cell_with_next}
use Rattle.solid_model.proofs.per_axis.PerAxis.after.Goals as goal

pub returns : goal.returns
returns c = cell_with_next c.args.self c.numbered.result c.args.axis c.along.result c.along.ensures c.numbered.ensures
