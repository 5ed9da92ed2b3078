use Rattle.steal_pool.proofs.Passes.{merges}
use Rattle.steal_pool.proofs.owner.OwnerSeat.absorb.Goals as goal

pub absorb-requires-clause-rule : goal.absorb-requires-clause-rule
absorb-requires-clause-rule c = merges _ _ _ _ c.self.invariant.1 c.thief.invariant.3
