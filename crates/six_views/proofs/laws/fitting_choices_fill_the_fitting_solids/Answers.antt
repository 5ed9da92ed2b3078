-- A solid fits lines where it fits their runs, and a choice where its solid does.
use Rattle.six_views.proofs.Sifted.{fits_lines, sifted_whole}
use Rattle.six_views.proofs.laws.fitting_choices_fill_the_fitting_solids.Goals as goal

pub returns-clause-runs : goal.returns-clause-runs
returns-clause-runs c = fits_lines

pub returns-clause-choices : goal.returns-clause-choices
returns-clause-choices c = sifted_whole
