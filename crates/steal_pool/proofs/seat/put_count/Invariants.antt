use Rattle.std.proofs.Common.{◌≡◌, map, take, length}
use Rattle.steal_pool.specs.WorkerSeats.{state_of}
use Rattle.steal_pool.proofs.seat.put_count.Given as goal
use Rattle.lemmas.specs.Counts.{total}

abbrev pub invariant-loop-seat : goal.invariant-loop-seat
invariant-loop-seat l = l.count ≡ total (λ s. length s.owner.put) (map state_of (take l.seat-index l.seats))
