-- The first values lead to the node.
use Rattle.std.proofs.Common.{take}
use Rattle.prefix_tree.specs.Places.{StandsAt}
use Rattle.prefix_tree.proofs.prefixes.Prefixes.place.Given as goal

abbrev pub invariant-loop-block : goal.invariant-loop-block
invariant-loop-block l = StandsAt l.self-inside.nodes (take l.block l.prefix) l.at
