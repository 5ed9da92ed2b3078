use Rattle.recon_run.proofs.Trials.{made_is_faultless}
use Rattle.recon_run.proofs.laws.made_files_have_no_fault.Goals as goal

pub returns : goal.returns
returns c n left rest answer text (reads, is, file) = made_is_faultless n text file
