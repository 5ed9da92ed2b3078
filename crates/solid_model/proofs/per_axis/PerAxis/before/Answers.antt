-- The number before is the cell before.
use Rattle.std.proofs.Common.{arith}
use Rattle.solid_model.proofs.Numbers.{cell_with_earlier}
use Rattle.solid_model.proofs.per_axis.PerAxis.before.Goals as goal

pub returns-clause-some : goal.returns-clause-some
returns-clause-some c = cell_with_earlier c.args.self c.numbered.result c.args.axis c.in_ok-number.number (omega (arith, c.in_ok-number.ensures, c.along.ensures)) c.numbered.ensures
