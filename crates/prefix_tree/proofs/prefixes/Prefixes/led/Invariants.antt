-- The way to the place is that to the node at which it has come, and the last values.
use Rattle.std.proofs.Common.{◌≡◌, ◌+◌, ◌<◌, ◌++◌, drop, take, length}
use Rattle.prefix_tree.specs.Places.{prefix_at}
use Rattle.prefix_tree.proofs.prefixes.Prefixes.led.Given as goal

abbrev pub invariant-loop-back : goal.invariant-loop-back
invariant-loop-back l = record {
  inside : l.at < length l.self;
  count : length l.led ≡ l.shared + l.more;
  left : length (prefix_at l.self l.at) + l.back ≡ l.shared + l.more;
  last : prefix_at l.self l.to ≡ prefix_at l.self l.at ++ drop (length (prefix_at l.self l.at)) l.led;
  first : take l.shared l.led ≡ take l.shared l.prefix;
}
