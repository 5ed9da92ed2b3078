-- All ways are those that stand at the root.
use Rattle.std.proofs.Common.{arith}
use Rattle.prefix_tree.proofs.Ways.{ways_begun}
use Rattle.prefix_tree.proofs.prefixes.ways_at_root.Goals as goal

pub returns : goal.returns
returns c = (let i = c.loop.invariant in ways_begun c.loop.ways.items (let some = c.requires in omega (arith, i.count)) i.root)
