use Rattle.recon_run.proofs.OneAnswer.{same_answer}
use Rattle.recon_run.proofs.laws.one_answer.Goals as goal

pub returns : goal.returns
returns c words input rest left a b text other first second = same_answer words input rest left a b text other first second
