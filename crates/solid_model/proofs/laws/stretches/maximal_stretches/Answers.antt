use Rattle.solid_model.proofs.MaximalStretches.{some_stretch, one_stretch}
use Rattle.solid_model.proofs.laws.stretches.maximal_stretches.Goals as goal

pub returns-clause-some : goal.returns-clause-some
returns-clause-some c p low high within z passes = some_stretch p z passes low high within

pub returns-clause-one : goal.returns-clause-one
returns-clause-one c = one_stretch
