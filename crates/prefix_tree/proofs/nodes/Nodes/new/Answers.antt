-- A tree of one node.
use Rattle.std.proofs.Common.{◌≡◌, ◌++◌, ◌∷◌, [], List, false, sym, ◌∙◌, ap, subst}
use Rattle.prefix_tree.specs.Nodes.{NodeParts, new_node, ways, IsTrie}
use Rattle.prefix_tree.proofs.Trees.{one_tree}
use Rattle.prefix_tree.proofs.nodes.Nodes.new.Goals as goal

pub invariant_of-result : goal.invariant_of-result
invariant_of-result c =
    let nodes : c.push.new.self.items ≡ new_node 0 false ∷ [] = c.in_ok-push.ensures.items ∙ ap (λ (l : List NodeParts). l ++ c.new.result ∷ []) c.new-list.ensures.items ∙ ap (λ (n : NodeParts). n ∷ []) c.new.ensures in
    subst IsTrie (sym nodes) one_tree

pub returns : goal.returns
returns c =
    let nodes : c.push.new.self.items ≡ new_node 0 false ∷ [] = c.in_ok-push.ensures.items ∙ ap (λ (l : List NodeParts). l ++ c.new.result ∷ []) c.new-list.ensures.items ∙ ap (λ (n : NodeParts). n ∷ []) c.new.ensures in
    ap ways nodes
