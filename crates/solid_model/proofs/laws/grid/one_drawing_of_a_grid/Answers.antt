use Rattle.solid_model.proofs.GridMatching.{one_drawing}
use Rattle.solid_model.proofs.laws.grid.one_drawing_of_a_grid.Goals as goal

pub returns : goal.returns
returns c = λ drawing other g is is_too grid grid_too. one_drawing drawing is g grid other is_too grid_too
