use Rattle.std.proofs.Common.{refl}
use Rattle.solid_model.proofs.Views.{in_each_view}
use Rattle.solid_model.proofs.laws.drawings.quartered_cube.Goals as goal

pub returns-clause-level : goal.returns-clause-level
returns-clause-level c =
    (in_each_view _ refl refl refl, (in_each_view _ refl refl refl, (in_each_view _ refl refl refl, tt)))

pub returns-clause-upright : goal.returns-clause-upright
returns-clause-upright c =
    (in_each_view _ refl refl refl, (in_each_view _ refl refl refl, (in_each_view _ refl refl refl, tt)))
