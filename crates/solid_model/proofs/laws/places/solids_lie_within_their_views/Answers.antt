use Rattle.solid_model.proofs.Matched.{lies_in_box}
use Rattle.solid_model.proofs.WithinViews.{lies_in_rectangle}
use Rattle.solid_model.proofs.laws.places.solids_lie_within_their_views.Goals as goal

pub returns-clause-view : goal.returns-clause-view
returns-clause-view c = lies_in_rectangle

pub returns-clause-three_views : goal.returns-clause-three_views
returns-clause-three_views c = λ drawing sees s matches. lies_in_box drawing s matches sees
