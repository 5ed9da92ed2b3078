-- Steps are what ways lead to.
use Rattle.faces.proofs.SquareGraph.{steps_lead}
use Rattle.faces.proofs.joined.NeighboursGraph.way_count.Goals as goal

pub returns-clause-steps : goal.returns-clause-steps
returns-clause-steps c = steps_lead c.args.self.now.squares.now
