-- What may be full and isn't for certain.
use Rattle.line_demands.proofs.ValueBits.{set_apart}
use Rattle.line_demands.proofs.doubts.undecided.Goals as goal

pub returns : goal.returns
returns c = set_apart c.args.column.full c.args.column.may c.requires
