-- Where a node leads there is a node, and where it doesn't, there is none.
use Rattle.std.proofs.Common.{◌≡◌, ◌<◌, ◌++◌, ◌∷◌, [], ℕ, List, Bool, false, Some, None, length, sym, ◌∙◌, ap, subst, arith}
use Rattle.std.specs.Prelude.{Option, MatchOption}
use Rattle.std.proofs.lemmas.List.{get_or_read}
use Rattle.prefix_tree.specs.Nodes.{NodeParts, new_node, node_at, child, ways, IsTrie}
use Rattle.prefix_tree.specs.Places.{prefix_at, StandsAt}
use Rattle.prefix_tree.proofs.Trees.{length-ways, leads_nowhere}
use Rattle.prefix_tree.proofs.nodes.Nodes.child.Goals as goal

abbrev IsChild : List (List Bool) → ℕ → Bool → Option ℕ → Type 0
IsChild v at b o = MatchOption o ((rest : List Bool) (k : ℕ) → StandsAt v (prefix_at v at ++ b ∷ rest) k → ⊥) (StandsAt v (prefix_at v at ++ b ∷ []))

is_child : (nodes : List NodeParts) → IsTrie nodes → (at : ℕ) (b : Bool) → at < length nodes → (o : Option ℕ) → child (node_at nodes at) b ≡ o → IsChild (ways nodes) at b o
is_child nodes t at b l None e = λ rest k. leads_nowhere nodes t at b rest k l e
is_child nodes t at b l (Some next) e = t.leads at b next l e

pub index-requires : goal.index-requires
index-requires c = omega (arith, length-ways c.self.inside.list.items, ap length c.self.view_is, c.requires)

pub returns : goal.returns
returns c =
    let nodes = c.self.inside.list.items in
    let l : c.args.at < length nodes = omega (arith, length-ways nodes, ap length c.self.view_is, c.requires) in
    let is : child (node_at nodes c.args.at) c.args.full ≡ c.child.result =
    ap (λ (n : NodeParts). child n c.args.full) (sym (get_or_read nodes c.args.at c.index.result.now l c.index.ensures (new_node 0 false))) ∙ sym c.child.ensures in
    subst (λ (v : List (List Bool)). IsChild v c.args.at c.args.full c.child.result) c.self.view_is (is_child nodes c.self.invariant c.args.at c.args.full l c.child.result is)
