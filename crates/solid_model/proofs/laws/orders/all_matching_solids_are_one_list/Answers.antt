use Rattle.solid_model.proofs.SolidOrder.{one_list_of_solids}
use Rattle.solid_model.proofs.laws.orders.all_matching_solids_are_one_list.Goals as goal

pub returns : goal.returns
returns c = one_list_of_solids
