use Rattle.completeness_logs.proofs.Matching.{log_matches, log_once, log_complete, log_ordered}
use Rattle.completeness_logs.proofs.laws.logs_list_all_matching_choices.Goals as goal

pub returns-clause-each : goal.returns-clause-each
returns-clause-each c = λ drawing is p grid blocks text choices log. log_matches p text choices log drawing is grid blocks

pub returns-clause-once : goal.returns-clause-once
returns-clause-once c = λ p text choices log. log_once p text choices log

pub returns-clause-complete : goal.returns-clause-complete
returns-clause-complete c = λ drawing is p grid blocks text choices log. log_complete p text choices log drawing is grid blocks

pub returns-clause-in_order : goal.returns-clause-in_order
returns-clause-in_order c = λ drawing is p grid blocks text choices log. log_ordered p text choices log drawing is grid blocks
