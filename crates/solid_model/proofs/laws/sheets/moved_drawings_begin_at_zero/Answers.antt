use Rattle.solid_model.proofs.Moved.{moved_begins, one_moved, moved_already}
use Rattle.solid_model.proofs.laws.sheets.moved_drawings_begin_at_zero.Goals as goal

pub returns-clause-begins : goal.returns-clause-begins
returns-clause-begins c = moved_begins

pub returns-clause-one : goal.returns-clause-one
returns-clause-one c = one_moved

pub returns-clause-already : goal.returns-clause-already
returns-clause-already c = moved_already
