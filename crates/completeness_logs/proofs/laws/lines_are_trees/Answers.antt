use Rattle.std.proofs.Common.{subst, ap, sym, ◌∙◌, [], ◌∷◌}
use Rattle.std.proofs.lemmas.List.{append-nil}
use Rattle.completeness_logs.specs.Logs.{AreTreesUnder, listed_along, tree_entries, listed_choices}
use Rattle.completeness_logs.proofs.Trees.{follows_tree, tree_follows, tree_listed}
use Rattle.completeness_logs.proofs.laws.lines_are_trees.Goals as goal

pub returns-clause-to : goal.returns-clause-to
returns-clause-to c = λ p known entries f. follows_tree p known entries f

pub returns-clause-from : goal.returns-clause-from
returns-clause-from c = λ p known t is. subst (λ xs. AreTreesUnder p (known ∷ []) xs) (append-nil (tree_entries t)) (tree_follows p t known [] [] is tt)

pub returns-clause-listed : goal.returns-clause-listed
returns-clause-listed c = λ p known t. sym (ap (λ xs. listed_along p (known ∷ []) xs) (append-nil (tree_entries t))) ∙ tree_listed p t known [] [] ∙ append-nil (listed_choices p known t)
