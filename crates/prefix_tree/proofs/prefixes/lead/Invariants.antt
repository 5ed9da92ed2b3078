-- The first values lead to the node, the last of the way, and the nodes have grown.
use Rattle.std.proofs.Common.{◌≡◌, ◌+◌, ◌++◌, Bool, List, length, take}
use Rattle.prefix_tree.specs.Nodes.{IsWay}
use Rattle.prefix_tree.specs.Places.{StandsAt}
use Rattle.prefix_tree.proofs.prefixes.lead.Given as goal

abbrev pub invariant-loop-block : goal.invariant-loop-block
invariant-loop-block l = record {
  there : StandsAt l.nodes (take l.block l.prefix) l.at;
  grown : (more : List (List Bool)) × (l.nodes ≡ l.initial.nodes ++ more);
  way : IsWay l.nodes (record { values = l.prefix; nodes = l.way.nodes });
  count : length l.way.nodes ≡ l.block + 1;
}
