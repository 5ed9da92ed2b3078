use Rattle.made_laws.proofs.MadeLimits.{few_made_blocks, few_made_nodes, few_made_solids}
use Rattle.made_laws.proofs.laws.made_drawings_stay_within_the_limits.Goals as goal

pub returns-clause-blocks : goal.returns-clause-blocks
returns-clause-blocks c = few_made_blocks

pub returns-clause-nodes : goal.returns-clause-nodes
returns-clause-nodes c = few_made_nodes

pub returns-clause-solids : goal.returns-clause-solids
returns-clause-solids c = few_made_solids
