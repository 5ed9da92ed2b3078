-- All ways so far stand at the root.
use Rattle.std.proofs.Common.{◌≡◌, ◌<◌, ℕ, length}
use Rattle.prefix_tree.specs.Nodes.{way_at, root_way}
use Rattle.prefix_tree.proofs.prefixes.ways_at_root.Given as goal

abbrev pub invariant-loop : goal.invariant-loop
invariant-loop l = record {
  count : length l.ways.items ≡ l.counter;
  root : (k : ℕ) → k < length l.ways.items → way_at l.ways.items k ≡ root_way;
}
