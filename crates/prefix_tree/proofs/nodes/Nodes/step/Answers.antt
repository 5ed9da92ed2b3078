-- The node's child is there, or a new node becomes it.
use Rattle.std.proofs.Common.{◌≡◌, ◌<◌, ◌+◌, ℕ, List, [], ◌++◌, ◌∷◌, Bool, false, length, get_or, set, sym, ◌∙◌, ap, ap₂, subst, arith}
use Rattle.std.proofs.lemmas.List.{get_or_read, get_or_read_under, get_or_append_left, length_push}
use Rattle.std.specs.Prelude.{Option}
use Rattle.prefix_tree.specs.Nodes.{NodeParts, new_node, node_at, child, with_child, ways, IsTrie}
use Rattle.prefix_tree.specs.Places.{prefix_at, StandsAt}
use Rattle.prefix_tree.proofs.Stored.{stands-last}
use Rattle.prefix_tree.proofs.Trees.{length-ways, with_node, tree_with, ways_with}
use Rattle.prefix_tree.proofs.nodes.Nodes.step.Goals as goal

-- the child that the node has
has : (nodes : List NodeParts) (at : ℕ) (b : Bool) (l : at < length nodes) (node : NodeParts) (o : Option ℕ) → node ≡ get_or nodes at node → o ≡ child node b → child (node_at nodes at) b ≡ o
has nodes at b l node o e f = ap (λ n. child n b) (sym (get_or_read nodes at node l e (new_node 0 false))) ∙ sym f

-- what is written is the tree with the new node
written : (nodes pushed : List NodeParts) (at next : ℕ) (b : Bool) (node again new : NodeParts) → at < length nodes → new ≡ new_node at b → pushed ≡ nodes ++ new ∷ [] → next ≡ length nodes
    → again ≡ get_or pushed at again → node ≡ with_child again b next → set pushed at node ≡ with_node nodes at b
written nodes pushed at next b node again new l made items long read led =
    let is : pushed ≡ nodes ++ new_node at b ∷ [] = items ∙ ap (λ (n : NodeParts). nodes ++ n ∷ []) made in
    let old : again ≡ node_at nodes at = get_or_read_under pushed at (length nodes + 1) again (new_node 0 false) read (omega arith) (sym (ap length is ∙ length_push nodes (new_node at b)))
    ∙ ap (λ (l : List NodeParts). get_or l at (new_node 0 false)) is ∙ get_or_append_left nodes (new_node at b ∷ []) (new_node 0 false) at l in
    ap₂ (λ (l : List NodeParts) (n : NodeParts). set l at n) is (led ∙ ap₂ (λ (n : NodeParts) (j : ℕ). with_child n b j) old long)

pub index-requires : goal.index-requires
index-requires c = omega (arith, length-ways c.self.inside.list.items, ap length c.self.view_is, c.requires)

pub returns-in-Some-clause-there : goal.returns-in-Some-clause-there
returns-in-Some-clause-there c =
    let nodes = c.self.inside.list.items in
    let l : c.args.at < length nodes = omega (arith, length-ways nodes, ap length c.self.view_is, c.requires) in
    let is = has nodes c.args.at c.args.full l c.index.result.now c.child.result c.index.ensures c.child.ensures in
    subst (λ (v : List (List Bool)). StandsAt v (prefix_at v c.args.at ++ c.args.full ∷ []) c.in-Some.next) c.self.view_is
    (c.self.invariant.leads c.args.at c.args.full c.in-Some.next l (is ∙ c.in-Some.is))

pub new-requires : goal.new-requires
new-requires c = omega (arith, length-ways c.self.inside.list.items, ap length c.self.view_is, c.requires)

pub index_mut-requires : goal.index_mut-requires
index_mut-requires c =
    omega (arith, length-ways c.self.inside.list.items, ap length c.self.view_is, c.requires, ap length c.in_ok-push.ensures.items, length_push c.self.inside.list.items c.new.result)

pub invariant_of-self-2 : goal.invariant_of-self-2
invariant_of-self-2 c =
    let nodes = c.self.inside.list.items in
    let l : c.args.at < length nodes = omega (arith, length-ways nodes, ap length c.self.view_is, c.requires) in
    let none = has nodes c.args.at c.args.full l c.index.result.now c.child.result c.index.ensures c.child.ensures ∙ c.in_default.is in
    subst IsTrie (sym (written nodes c.push.new.self.items c.args.at c.len-next.result c.args.full c.set_child.new.self c.index_mut.result.now c.new.result l c.new.ensures c.in_ok-push.ensures.items (omega arith) c.index_mut.ensures.value c.set_child.ensures))
    (tree_with nodes c.self.invariant c.args.at c.args.full l none)

pub returns-clause-grown : goal.returns-clause-grown
returns-clause-grown c =
    let nodes = c.self.inside.list.items in
    let l : c.args.at < length nodes = omega (arith, length-ways nodes, ap length c.self.view_is, c.requires) in
    let none = has nodes c.args.at c.args.full l c.index.result.now c.child.result c.index.ensures c.child.ensures ∙ c.in_default.is in
    let is = written nodes c.push.new.self.items c.args.at c.len-next.result c.args.full c.set_child.new.self c.index_mut.result.now c.new.result l c.new.ensures c.in_ok-push.ensures.items (omega arith) c.index_mut.ensures.value c.set_child.ensures in (
      (prefix_at c.args.self.now c.args.at ++ c.args.full ∷ []) ∷ [],
      ap ways is ∙ ways_with nodes c.self.invariant c.args.at c.args.full l none ∙ ap (λ (v : List (List Bool)). v ++ (prefix_at v c.args.at ++ c.args.full ∷ []) ∷ []) c.self.view_is,
    )

pub returns-clause-there : goal.returns-clause-there
returns-clause-there c =
    let nodes = c.self.inside.list.items in
    let l : c.args.at < length nodes = omega (arith, length-ways nodes, ap length c.self.view_is, c.requires) in
    let none = has nodes c.args.at c.args.full l c.index.result.now c.child.result c.index.ensures c.child.ensures ∙ c.in_default.is in
    let is = written nodes c.push.new.self.items c.args.at c.len-next.result c.args.full c.set_child.new.self c.index_mut.result.now c.new.result l c.new.ensures c.in_ok-push.ensures.items (omega arith) c.index_mut.ensures.value c.set_child.ensures in
    let long : length c.args.self.now ≡ c.len-next.result = omega (arith, length-ways nodes, ap length c.self.view_is) in
    let made : List Bool = prefix_at c.args.self.now c.args.at ++ c.args.full ∷ [] in
    let grown : ways (set c.push.new.self.items c.args.at c.set_child.new.self) ≡ c.args.self.now ++ made ∷ [] =
    ap ways is ∙ ways_with nodes c.self.invariant c.args.at c.args.full l none ∙ ap (λ (v : List (List Bool)). v ++ (prefix_at v c.args.at ++ c.args.full ∷ []) ∷ []) c.self.view_is in
    subst (λ (v : List (List Bool)). StandsAt v made c.len-next.result) (sym grown) (subst (StandsAt (c.args.self.now ++ made ∷ []) made) long (stands-last c.args.self.now made))
