-- What the ways so far lead to.
use Rattle.std.proofs.Common.{◌≡◌, ◌+◌, vec_len, vec_capacity}
use Rattle.flood.specs.Graph.{Leads}
use Rattle.flood.specs.NodeMarks.{unmarked, Spreads}
use Rattle.flood.proofs.flood.spread.Given as goal

abbrev pub invariant-loop-way : goal.invariant-loop-way
invariant-loop-way g l = record {
  spreads : Spreads (Leads l.way (g.G.Graph.next l.graph) l.node) l.number l.fn.marks l.fn.stack.items l.marks l.stack.items;
  room : vec_len l.stack + unmarked l.marks ≡ vec_len l.fn.stack + unmarked l.fn.marks;
  capacity : vec_capacity l.stack ≡ vec_capacity l.fn.stack;
}
