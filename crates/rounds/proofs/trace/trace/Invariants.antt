-- The round so far. Each turn gives a node a mark that has none.
use Rattle.rounds.specs.NodeMarks.{unmarked_nodes, Traces}
use Rattle.rounds.proofs.trace.trace.Given as goal

abbrev pub invariant-loop-node : goal.invariant-loop-node
invariant-loop-node g l =
    Traces (g.S.Succession.nodes l.succession) (g.S.Succession.inside l.succession) (g.S.Succession.next l.succession)
    l.start l.fn.marks l.marks l.round.items l.node

abbrev pub decreases-loop-node : goal.decreases-loop-node
decreases-loop-node g l = unmarked_nodes l.marks
