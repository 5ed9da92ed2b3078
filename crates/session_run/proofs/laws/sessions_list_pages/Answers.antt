use Rattle.search_end.specs.Stopped.{end_solids}
use Rattle.session_run.proofs.Told.{pages_listed}
use Rattle.session_run.proofs.laws.sessions_list_pages.Goals as goal

pub returns : goal.returns
returns c p limits scripts s is = pages_listed p limits.solids (end_solids s.end) scripts s.tales.items is.tales is.listed
