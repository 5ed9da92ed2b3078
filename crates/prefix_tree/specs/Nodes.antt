-- A tree of nodes that lists of truth values lead down: each node but the root is led to by one before it, for one more value.
use Rattle.std.specs.Prelude.{◌≡◌, ◌==◌, ◌<◌, ◌≤◌, ◌+◌, Bool, true, false, ℕ, List, [], ◌∷◌, ◌++◌, length, take, slice_index_or, Option, Some, None, if◌then◌else◌}
use Rattle.prefix_tree.specs.Places.{prefix_at, StandsAt}

-- a node: the one before it, which leads to it, for which value, and where it leads for a full block and for an empty one
pub record NodeParts : Type 0 where
  pub before : ℕ
  pub value : Bool
  pub full : ℕ
  pub empty : ℕ

-- the greatest number of a node, which has 31 bits
abbrev pub most_nodes : ℕ
most_nodes = 2147483647

-- a node that leads nowhere, to which one before it leads for a value
abbrev pub new_node : ℕ → Bool → NodeParts
new_node before value = record { before = before; value = value; full = 0; empty = 0 }

-- the node of a number
abbrev pub node_at : List NodeParts → ℕ → NodeParts
node_at nodes k = slice_index_or nodes k (new_node 0 false)

-- nothing leads to the root, so that its number stands for nowhere
abbrev pub unless_root : ℕ → Option ℕ
unless_root k = if k == 0 then None else Some k

-- where a node leads for a value
abbrev pub child : NodeParts → Bool → Option ℕ
child node true = unless_root node.full
child node false = unless_root node.empty

-- the same node, which leads there for this value
abbrev pub with_child : NodeParts → Bool → ℕ → NodeParts
with_child node true next = record { before = node.before; value = node.value; full = next; empty = node.empty }
with_child node false next = record { before = node.before; value = node.value; full = node.full; empty = next }

-- the list that leads to a node, where these lead to the nodes before it
abbrev pub way_of : List (List Bool) → NodeParts → List Bool
way_of before node = prefix_at before node.before ++ node.value ∷ []

-- the lists that lead to nodes, behind those that lead to the nodes before them
abbrev pub ways_on : List (List Bool) → List NodeParts → List (List Bool)
ways_on before [] = before
ways_on before (node ∷ nodes) = ways_on (before ++ way_of before node ∷ []) nodes

-- the lists that lead to all nodes: the empty one to the root
abbrev pub ways : List NodeParts → List (List Bool)
ways [] = []
ways (root ∷ nodes) = ways_on ([] ∷ []) nodes

-- The nodes are a tree: each but the root stands behind the one before it, which leads to it for its value; and where a node
-- leads for a value, that list and the value lead.
pub record IsTrie (nodes : List NodeParts) : Type 0 where
  pub some : 0 < length nodes
  pub earlier : (k : ℕ) → 0 < k → k < length nodes → (node_at nodes k).before < k
  pub led : (k : ℕ) → 0 < k → k < length nodes → child (node_at nodes (node_at nodes k).before) (node_at nodes k).value ≡ Some k
  pub leads : (at : ℕ) (b : Bool) (next : ℕ) → at < length nodes → child (node_at nodes at) b ≡ Some next
      → StandsAt (ways nodes) (prefix_at (ways nodes) at ++ b ∷ []) next

-- values, and the nodes to which the first of them lead
pub record WayParts : Type 0 where
  pub values : List Bool
  pub nodes : List ℕ

-- the root is one of these nodes
abbrev pub IsBegunWay : WayParts → Type 0
IsBegunWay way = 0 < length way.nodes

-- a way leads down the tree with these prefixes: the first values, so many, lead to the node of this number
abbrev pub IsWay : List (List Bool) → WayParts → Type 0
IsWay prefixes way = (k : ℕ) → k < length way.nodes → StandsAt prefixes (take k way.values) (slice_index_or way.nodes k 0)

-- the way that stands at the root
abbrev pub root_way : WayParts
root_way = record { values = []; nodes = 0 ∷ [] }

-- the way at a place of a list
abbrev pub way_at : List WayParts → ℕ → WayParts
way_at ways k = slice_index_or ways k root_way

-- ways, at least one, each of which leads down the tree with these prefixes
pub record AreWays (prefixes : List (List Bool)) (ways : List WayParts) : Type 0 where
  pub some : 0 < length ways
  pub each : (k : ℕ) → k < length ways → IsWay prefixes (way_at ways k)

-- two lists begin with the same values, so many, and the second one has so many more
pub record IsMeeting (p q : List Bool) (shared more : ℕ) : Type 0 where
  pub within : shared ≤ length p
  pub all : shared + more ≡ length q
  pub same : take shared p ≡ take shared q
