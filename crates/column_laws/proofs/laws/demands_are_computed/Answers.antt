use Rattle.column_laws.proofs.LiveComputed.{live_computed}
use Rattle.column_laws.proofs.MetLines.{met_computed}
use Rattle.column_laws.proofs.laws.demands_are_computed.Goals as goal

pub returns-clause-met : goal.returns-clause-met
returns-clause-met c p are = met_computed p are.sized

pub returns-clause-live : goal.returns-clause-live
returns-clause-live c p are = live_computed p are
