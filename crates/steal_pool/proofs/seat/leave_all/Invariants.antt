use Rattle.std.proofs.Common.{◌≡◌, ◌++◌, List, map, length}
use Rattle.std.specs.Vec.Iter.{into_iter_items}
use Rattle.steal_pool.specs.Seats.{SeatState, AreMet, parted_seats, parted_owner}
use Rattle.steal_pool.specs.WorkerSeats.{state_of}
use Rattle.steal_pool.proofs.seat.leave_all.Given as goal

abbrev pub invariant-loop-seat : goal.invariant-loop-seat
invariant-loop-seat l = (first : List SeatState) × (rest : List SeatState)
    × (length first ≡ l.seat-index)
    × (map state_of l.seats ≡ first ++ rest)
    × (l.owner.deque ≡ l.initial.owner.deque)
    × AreMet l.initial.owner.deque rest (into_iter_items l.thieves)
    × (parted_seats (map state_of l.initial.seats) (into_iter_items l.initial.thieves) ≡ first ++ parted_seats rest (into_iter_items l.thieves))
    × (parted_owner l.initial.owner (map state_of l.initial.seats) ≡ parted_owner l.owner rest)
