use Rattle.solid_model.specs.Choices.{IsMatchingChoice}
use Rattle.solid_model.specs.Panels.{coordinates_of}
use Rattle.solid_model.proofs.CompleteTree.{complete_tree, complete_solids}
use Rattle.solid_model.proofs.laws.tree.the_tree_is_complete.Goals as goal

pub returns-clause-choices : goal.returns-clause-choices
returns-clause-choices c = λ drawing g grid blocks count live keeps. complete_tree (IsMatchingChoice drawing (coordinates_of g) blocks) live count keeps

pub returns-clause-solids : goal.returns-clause-solids
returns-clause-solids c = complete_solids
