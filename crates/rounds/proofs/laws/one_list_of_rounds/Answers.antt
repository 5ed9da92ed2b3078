use Rattle.rounds.proofs.OneList.{one_list}
use Rattle.rounds.proofs.laws.one_list_of_rounds.Goals as goal

pub returns : goal.returns
returns c = one_list
