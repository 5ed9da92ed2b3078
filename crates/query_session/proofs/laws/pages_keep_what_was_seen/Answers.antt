use Rattle.query_session.proofs.Seen.{seen_again}
use Rattle.query_session.proofs.laws.pages_keep_what_was_seen.Goals as goal

pub returns : goal.returns
returns c = seen_again
