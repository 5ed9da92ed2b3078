use Rattle.solid_model.proofs.SomeLines.{some_coordinates}
use Rattle.solid_model.proofs.laws.grid.each_axis_has_a_coordinate.Goals as goal

pub returns : goal.returns
returns c = λ drawing g is grid a. some_coordinates drawing is g grid a
