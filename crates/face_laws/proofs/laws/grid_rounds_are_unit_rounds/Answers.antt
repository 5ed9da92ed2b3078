use Rattle.face_laws.proofs.GridTraces.{grid_round, ends_on_grid}
use Rattle.face_laws.proofs.laws.grid_rounds_are_unit_rounds.Goals as goal

pub returns-clause-rounds : goal.returns-clause-rounds
returns-clause-rounds c = grid_round

pub returns-clause-ends : goal.returns-clause-ends
returns-clause-ends c = ends_on_grid
