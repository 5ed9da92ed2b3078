-- The nodes so far.
use Rattle.std.proofs.Common.{map, ◌≤◌, ◌-◌}
use Rattle.rounds.specs.NodeMarks.{AreTraced}
use Rattle.rounds.proofs.trace.trace_all.Given as goal

abbrev pub invariant-loop-node : goal.invariant-loop-node
invariant-loop-node g l = record {
  traced : AreTraced (g.S.Succession.nodes l.succession) (g.S.Succession.inside l.succession) (g.S.Succession.next l.succession)
      l.marks (map (λ r. r.items) l.rounds.items) l.node;
  within : l.node ≤ g.S.Succession.nodes l.succession;
}

abbrev pub decreases-loop-node : goal.decreases-loop-node
decreases-loop-node g l = g.S.Succession.nodes l.succession - l.node
