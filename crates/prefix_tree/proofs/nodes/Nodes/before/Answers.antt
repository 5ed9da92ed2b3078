-- The node before one leads to it for its value.
use Rattle.std.proofs.Common.{◌≡◌, ◌<◌, ◌++◌, ◌∷◌, [], ℕ, Bool, List, length, false, sym, ◌∙◌, ap, ap₂, subst, arith}
use Rattle.std.proofs.lemmas.List.{get_or_read}
use Rattle.prefix_tree.specs.Nodes.{NodeParts, new_node, ways}
use Rattle.prefix_tree.specs.Places.{prefix_at}
use Rattle.prefix_tree.proofs.Trees.{length-ways, way-led}
use Rattle.prefix_tree.proofs.nodes.Nodes.before.Goals as goal

pub index-requires : goal.index-requires
index-requires c = omega (arith, length-ways c.self.inside.list.items, ap length c.self.view_is, c.requires.inside)

pub returns-clause-before : goal.returns-clause-before
returns-clause-before c =
    let nodes = c.self.inside.list.items in
    let l : c.args.at < length nodes = omega (arith, length-ways nodes, ap length c.self.view_is, c.requires.inside) in
    let read = get_or_read nodes c.args.at c.index.result.now l c.index.ensures (new_node 0 false) in
    let less : c.index.result.now.before < c.args.at = subst (λ (n : NodeParts). n.before < c.args.at) (sym read) (c.self.invariant.earlier c.args.at c.requires.led l) in
    omega (arith, less, c.before-2.ensures.before)

pub returns-clause-led : goal.returns-clause-led
returns-clause-led c =
    let nodes = c.self.inside.list.items in
    let l : c.args.at < length nodes = omega (arith, length-ways nodes, ap length c.self.view_is, c.requires.inside) in
    let read = get_or_read nodes c.args.at c.index.result.now l c.index.ensures (new_node 0 false) in
    subst (λ (v : List (List Bool)). prefix_at v c.args.at ≡ prefix_at v c.before-2.result.0 ++ c.before-2.result.1 ∷ []) c.self.view_is
    (way-led nodes c.self.invariant c.args.at c.requires.led l ∙ ap (λ (n : NodeParts). prefix_at (ways nodes) n.before ++ n.value ∷ []) (sym read)
    ∙ ap₂ (λ (k : ℕ) (b : Bool). prefix_at (ways nodes) k ++ b ∷ []) (sym c.before-2.ensures.before) (sym c.before-2.ensures.value))
