use Rattle.solid_model.proofs.GridMatching.{matching_on_grid}
use Rattle.solid_model.proofs.laws.grid.matching_is_seen_on_the_grid.Goals as goal

pub returns : goal.returns
returns c = λ drawing g is grid. matching_on_grid drawing is g grid
