-- What isn't asked for asks for nothing.
use Rattle.six_views.proofs.FittingSolids.{none_asked}
use Rattle.six_views.proofs.laws.without_further_views_all_matching_solids_fit.Goals as goal

pub returns-clause-none_asked : goal.returns-clause-none_asked
returns-clause-none_asked c = none_asked
