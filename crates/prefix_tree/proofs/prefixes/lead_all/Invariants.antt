-- The first ones have their places; the way goes along the last of them, and along the next one where it is left.
use Rattle.std.proofs.Common.{◌≡◌, ◌<◌, ◌≤◌, ◌+◌, ◌-◌, ◌++◌, Bool, List, map, length, take}
use Rattle.lemmas.specs.Lists.{Each}
use Rattle.prefix_tree.specs.Nodes.{IsWay}
use Rattle.prefix_tree.specs.Places.{prefix_at}
use Rattle.prefix_tree.proofs.prefixes.lead_all.Given as goal

abbrev pub invariant-loop-at : goal.invariant-loop-at
invariant-loop-at l = record {
  grown : (more : List (List Bool)) × (l.nodes ≡ l.initial.nodes ++ more);
  some : 0 < length l.way.nodes;
  last : 0 < l.at → IsWay l.nodes (record { values = prefix_at l.prefixes (l.at - 1); nodes = l.way.nodes });
  led : l.at < length l.prefixes → l.led < length l.way.nodes;
  within : l.at < length l.prefixes → l.led ≤ length (prefix_at l.prefixes l.at);
  next : l.at < length l.prefixes → IsWay l.nodes (record { values = prefix_at l.prefixes l.at; nodes = take (l.led + 1) l.way.nodes });
  below : Each (λ k. k < length l.nodes) l.places.items;
  places : map (prefix_at l.nodes) l.places.items ≡ take l.at l.prefixes;
}
