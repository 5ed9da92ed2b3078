use Rattle.column_laws.proofs.LivePrefixes.{live_keeps_matching}
use Rattle.column_laws.proofs.laws.live_prefixes_end_in_matching_solids.Goals as goal

pub returns : goal.returns
returns c = live_keeps_matching
