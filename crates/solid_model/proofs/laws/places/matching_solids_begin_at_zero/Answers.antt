use Rattle.solid_model.proofs.Matched.{none_below_zero, zero_reached}
use Rattle.solid_model.proofs.laws.places.matching_solids_begin_at_zero.Goals as goal

pub returns-clause-none_below : goal.returns-clause-none_below
returns-clause-none_below c = λ drawing sees s stands matches. none_below_zero drawing s matches sees stands

pub returns-clause-reached : goal.returns-clause-reached
returns-clause-reached c = λ drawing s is matches. zero_reached drawing s matches is
