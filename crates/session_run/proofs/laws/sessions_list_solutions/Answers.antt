use Rattle.session_run.proofs.EndSolids.{end_lists}
use Rattle.session_run.proofs.laws.sessions_list_solutions.Goals as goal

pub returns : goal.returns
returns c p limits scripts s blocks is = end_lists p blocks limits s.end is.end
