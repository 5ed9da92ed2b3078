use Rattle.proof_check.proofs.SaidRefusals.{one_refusal_said, never_said}
use Rattle.proof_check.proofs.laws.no_log_is_refused.Goals as goal

pub returns-clause-once : goal.returns-clause-once
returns-clause-once c = λ p text a b i j x y. one_refusal_said p text a b i j x y

pub returns-clause-never : goal.returns-clause-never
returns-clause-never c = λ p text kind line refused choices log. never_said p text kind line refused choices log
