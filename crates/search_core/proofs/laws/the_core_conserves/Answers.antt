use Rattle.std.proofs.Common.{[]}
use Rattle.solid_model.specs.Choices.{IsMatchingChoice}
use Rattle.solid_model.specs.Panels.{coordinates_of}
use Rattle.solid_model.specs.Tree.{live_below}
use Rattle.solid_model.proofs.CompleteTree.{complete_tree}
use Rattle.search_core.proofs.CoreEvents.{conserved, few_events, all_found}
use Rattle.search_core.proofs.laws.the_core_conserves.Goals as goal

pub returns-clause-states : goal.returns-clause-states
returns-clause-states c = λ live n closed limits events run. conserved live n limits closed events run

pub returns-clause-short : goal.returns-clause-short
returns-clause-short c = λ live n closed limits events run. few_events live n limits closed events run

pub returns-clause-whole : goal.returns-clause-whole
returns-clause-whole c = λ drawing g grid blocks count live keeps limits events run whole. (
  live_below live count [],
  complete_tree (IsMatchingChoice drawing (coordinates_of g) blocks) live count keeps,
  all_found live count limits keeps.tree.closed events run whole,
)
