use Rattle.proof_log.proofs.Begun.{some_log}
use Rattle.proof_log.proofs.laws.every_problem_has_a_log.Goals as goal

pub returns : goal.returns
returns c = λ p grid blocks count few. some_log p grid blocks count few
