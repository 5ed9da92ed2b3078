use Rattle.std.proofs.Common.{◌++◌, ◌∷◌, [], refl}
use Rattle.completeness_logs.specs.SmallLogs.{bar_log}
use Rattle.completeness_logs.proofs.NotchedBar.{log_of}
use Rattle.completeness_logs.proofs.laws.log_of_notched_bar.Goals as goal

pub returns-clause-log : goal.returns-clause-log
returns-clause-log c = log_of bar_log refl

pub returns-clause-feed : goal.returns-clause-feed
returns-clause-feed c = log_of (bar_log ++ 10 ∷ []) refl
