-- A list leads to each node, and no two lead to one.
use Rattle.std.proofs.Common.{◌<◌, ◌≤◌, ℕ, List, Bool, length, subst, arith}
use Rattle.prefix_tree.specs.Places.{prefix_at, AreDistinct}
use Rattle.prefix_tree.proofs.Trees.{length-ways, few-values, ways_distinct}
use Rattle.prefix_tree.proofs.nodes.Nodes.known.Goals as goal

pub returns-clause-distinct : goal.returns-clause-distinct
returns-clause-distinct c = subst AreDistinct c.self.view_is (ways_distinct c.self.inside.list.items c.self.invariant)

pub returns-clause-short : goal.returns-clause-short
returns-clause-short c =
    let nodes = c.self.inside.list.items in
    subst (λ (v : List (List Bool)). (k : ℕ) → k < length v → length (prefix_at v k) ≤ k) c.self.view_is
    (λ k l. few-values nodes c.self.invariant k (omega (arith, length-ways nodes)))
