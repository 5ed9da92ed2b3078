-- The flood so far. Each turn takes a node off the stack, and marks each that it puts there.
use Rattle.std.proofs.Common.{◌≡◌, ◌≤◌, ◌+◌, vec_len, vec_capacity}
use Rattle.flood.specs.NodeMarks.{unmarked, Floods}
use Rattle.flood.proofs.flood.flood.Given as goal

abbrev pub invariant-loop-node : goal.invariant-loop-node
invariant-loop-node g l = record {
  floods : Floods (g.G.Graph.steps l.graph) l.start l.number l.fn.marks l.marks l.stack.items;
  room : vec_len l.stack + unmarked l.marks ≤ vec_capacity l.stack;
  capacity : vec_capacity l.stack ≡ vec_capacity l.fn.stack;
}

abbrev pub decreases-loop-node : goal.decreases-loop-node
decreases-loop-node g l = vec_len l.stack + unmarked l.marks
