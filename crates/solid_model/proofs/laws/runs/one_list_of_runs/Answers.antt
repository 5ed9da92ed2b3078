use Rattle.solid_model.proofs.RunStyles.{same_styles_one_list}
use Rattle.solid_model.proofs.laws.runs.one_list_of_runs.Goals as goal

pub returns : goal.returns
returns c = same_styles_one_list
