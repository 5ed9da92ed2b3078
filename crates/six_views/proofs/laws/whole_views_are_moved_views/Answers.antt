-- What isn't cut is shown whole.
use Rattle.six_views.proofs.ShownCuts.{fits_uncut, shows_uncut}
use Rattle.six_views.proofs.laws.whole_views_are_moved_views.Goals as goal

pub returns-clause-shown : goal.returns-clause-shown
returns-clause-shown c = shows_uncut

pub returns-clause-fits : goal.returns-clause-fits
returns-clause-fits c = fits_uncut
