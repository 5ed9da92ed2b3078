use Rattle.rounds.proofs.SomeRound.{some_round}
use Rattle.rounds.proofs.laws.each_inside_node_has_a_round.Goals as goal

pub returns : goal.returns
returns c = some_round
