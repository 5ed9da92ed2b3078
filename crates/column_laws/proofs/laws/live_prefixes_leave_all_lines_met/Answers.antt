use Rattle.std.proofs.Common.{[]}
use Rattle.column_laws.proofs.laws.live_prefixes_leave_all_lines_met.Goals as goal

pub returns : goal.returns
returns c = λ p prefix live. live.lives [] tt
