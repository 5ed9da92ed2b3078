-- The live prefixes of the problem make a tree.
use Rattle.std.proofs.Common.{ap, subst}
use Rattle.solid_model.specs.Forcing.{is_live}
use Rattle.solid_model.specs.Tree.{IsTree}
use Rattle.column_laws.proofs.LiveTree.{problem_tree}
use Rattle.search_tree.proofs.block_path.BlockPathPath.block_count.Goals as goal

pub returns-clause-tree : goal.returns-clause-tree
returns-clause-tree c =
    subst (λ p. IsTree (is_live p) p.blocks.count) (ap (λ v. v.problem) c.self.view_is) (problem_tree c.self.inside.partial.problem c.self.invariant.1.parts)
