use Rattle.std.proofs.Common.{IsTrue}
use Rattle.solid_model.specs.VirtualFaces.{IsVirtual}
use Rattle.solid_model.specs.GridBox.{grid_sizes}
use Rattle.solid_model.proofs.OneNumbering.{one_numbering}
use Rattle.solid_model.proofs.laws.components.one_numbering_of_components.Goals as goal

pub returns-clause-enclosed : goal.returns-clause-enclosed
returns-clause-enclosed c = λ sizes wall. one_numbering sizes (λ a n. IsTrue (wall a n))

pub returns-clause-blocks : goal.returns-clause-blocks
returns-clause-blocks c = λ g. one_numbering (grid_sizes g) (IsVirtual g)
