-- The cubes come out of their definition.
use Rattle.std.proofs.Common.{refl}
use Rattle.std.specs.Fmt.{digits}
use Rattle.drawing_maker.proofs.laws.small_cubes.Goals as goal

pub returns-clause-three : goal.returns-clause-three
unfolding digits
returns-clause-three c = refl

pub returns-clause-eleven : goal.returns-clause-eleven
unfolding digits
returns-clause-eleven c = refl
