-- A list leads to each node.
use Rattle.std.proofs.Common.{length, ap, arith}
use Rattle.prefix_tree.proofs.Trees.{length-ways}
use Rattle.prefix_tree.proofs.nodes.Nodes.len.Goals as goal

pub returns : goal.returns
returns c = omega (arith, length-ways c.self.inside.list.items, ap length c.self.view_is, c.len.ensures)
