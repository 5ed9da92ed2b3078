use Rattle.std.proofs.Common.{map, ap, sym, ◌∙◌}
use Rattle.std.proofs.lemmas.Simd.{map-map}
use Rattle.steal_pool.specs.Seats.{as_opened}
use Rattle.steal_pool.specs.WorkerSeats.{state_of}
use Rattle.steal_pool.proofs.Pools.{opened_seats}
use Rattle.steal_pool.proofs.pool.Pool.open.Goals as goal

pub returns-clause-seats : goal.returns-clause-seats
returns-clause-seats c = sym (map-map as_opened state_of _) ∙ ap (map as_opened) c.loop.invariant.seats ∙ opened_seats _ _
