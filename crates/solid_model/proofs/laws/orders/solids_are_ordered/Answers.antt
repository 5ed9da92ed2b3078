use Rattle.solid_model.proofs.SolidOrder.{precedes_one_way, precedes_onward, same_or_precedes}
use Rattle.solid_model.proofs.laws.orders.solids_are_ordered.Goals as goal

pub returns-clause-one : goal.returns-clause-one
returns-clause-one c = precedes_one_way

pub returns-clause-onward : goal.returns-clause-onward
returns-clause-onward c = precedes_onward

pub returns-clause-some : goal.returns-clause-some
returns-clause-some c = same_or_precedes
