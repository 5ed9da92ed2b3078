use Rattle.steal_pool.proofs.Passes.{begins}
use Rattle.steal_pool.proofs.owner.OwnerSeat.open.Goals as goal

pub fifo_as-requires : goal.fifo_as-requires
fifo_as-requires c = begins
