use Rattle.solid_model.proofs.CellOrder.{one_list, stated_form}
use Rattle.solid_model.proofs.laws.orders.one_stated_form.Goals as goal

pub returns-clause-one : goal.returns-clause-one
returns-clause-one c = one_list

pub returns-clause-some : goal.returns-clause-some
returns-clause-some c = stated_form
