-- The nodes so far.
use Rattle.std.proofs.Common.{◌≡◌, ◌≤◌, vec_len, vec_capacity, true}
use Rattle.flood.specs.NodeMarks.{Numbers}
use Rattle.flood.proofs.numbering.number_nodes.Given as goal

abbrev pub invariant-loop-node : goal.invariant-loop-node
invariant-loop-node g l = record {
  numbers : Numbers (g.G.Graph.steps l.graph) (g.G.Graph.nodes l.graph) (λ _. true) l.marks l.node l.count;
  empty : vec_len l.stack ≡ 0;
  room : g.G.Graph.nodes l.graph ≤ vec_capacity l.stack;
}
