-- The text's word makes a tree.
use Rattle.search_tests.proofs.ToldTrees.{told_tree}
use Rattle.search_tests.proofs.trees.ToldPathPath.is_live.Goals as goal

pub returns-then-len-self-clause-tree : goal.returns-then-len-self-clause-tree
returns-then-len-self-clause-tree c = told_tree c.args.self.now.blocks c.args.self.now.text.now

pub returns-else-len-self-clause-tree : goal.returns-else-len-self-clause-tree
returns-else-len-self-clause-tree c = told_tree c.args.self.now.blocks c.args.self.now.text.now
