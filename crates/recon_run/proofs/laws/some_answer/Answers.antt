use Rattle.recon_run.proofs.Totality.{answered_somehow}
use Rattle.recon_run.proofs.laws.some_answer.Goals as goal

pub returns : goal.returns
returns c = answered_somehow
