use Rattle.recon_run.proofs.GoingOn.{goes_on}
use Rattle.recon_run.proofs.laws.begun_texts_go_on.Goals as goal

pub returns : goal.returns
returns c = goes_on
