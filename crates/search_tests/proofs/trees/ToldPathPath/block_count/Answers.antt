-- The text's word makes a tree.
use Rattle.search_tests.proofs.ToldTrees.{told_tree}
use Rattle.search_tests.proofs.trees.ToldPathPath.block_count.Goals as goal

pub returns-clause-tree : goal.returns-clause-tree
returns-clause-tree c = told_tree c.args.self.now.blocks c.args.self.now.text.now
