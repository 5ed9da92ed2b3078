use Rattle.file_problem.proofs.Faults.{one_fault}
use Rattle.recon_run.proofs.laws.one_first_fault.Goals as goal

pub returns : goal.returns
returns c = one_fault
