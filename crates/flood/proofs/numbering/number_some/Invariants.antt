-- The nodes so far.
use Rattle.std.proofs.Common.{◌≡◌, ◌≤◌, ◌*◌, ◌-◌, length, vec_len, vec_capacity}
use Rattle.flood.specs.NodeMarks.{Numbers}
use Rattle.lemmas.specs.Bits.{bit_of}
use Rattle.flood.proofs.numbering.number_some.Given as goal

abbrev pub invariant-loop-node : goal.invariant-loop-node
invariant-loop-node g l = record {
  numbers : Numbers (g.G.Graph.steps l.graph) (g.G.Graph.nodes l.graph) (bit_of l.nodes) l.marks l.node l.count;
  within : l.node ≤ length l.nodes * 64;
  empty : vec_len l.stack ≡ 0;
  room : g.G.Graph.nodes l.graph ≤ vec_capacity l.stack;
}

abbrev pub decreases-loop-node : goal.decreases-loop-node
decreases-loop-node g l = length l.nodes * 64 - l.node
