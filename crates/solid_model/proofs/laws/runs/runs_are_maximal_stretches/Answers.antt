use Rattle.solid_model.proofs.RunStyles.{each_run_stretch}
use Rattle.solid_model.proofs.laws.runs.runs_are_maximal_stretches.Goals as goal

pub returns : goal.returns
returns c = each_run_stretch
