-- The ways to the two places begin with those to the nodes at which they have come.
use Rattle.std.proofs.Common.{◌≡◌, ◌<◌, ◌+◌, ◌++◌, Bool, List, length}
use Rattle.prefix_tree.specs.Places.{prefix_at}
use Rattle.prefix_tree.proofs.prefixes.Prefixes.meeting.Given as goal

abbrev pub invariant-loop-from : goal.invariant-loop-from
invariant-loop-from l = record {
  from : l.from < length l.self;
  to : l.to < length l.self;
  shared : l.shared ≡ length (prefix_at l.self l.from);
  left : (rest : List Bool) × (prefix_at l.self l.initial.from ≡ prefix_at l.self l.from ++ rest);
  led : (rest : List Bool) × (prefix_at l.self l.initial.to ≡ prefix_at l.self l.to ++ rest) × (l.more ≡ length rest);
}

abbrev pub decreases-loop-from : goal.decreases-loop-from
decreases-loop-from l = l.from + l.to
