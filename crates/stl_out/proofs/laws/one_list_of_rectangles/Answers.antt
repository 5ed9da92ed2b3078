-- They are in order; and the walk comes to all of them.
use Rattle.stl_out.proofs.RectangleOrder.{one_list}
use Rattle.stl_out.proofs.SomeRectangles.{some_rectangles}
use Rattle.stl_out.proofs.laws.one_list_of_rectangles.Goals as goal

pub returns-clause-one : goal.returns-clause-one
returns-clause-one c = one_list

pub returns-clause-some : goal.returns-clause-some
returns-clause-some c = some_rectangles
