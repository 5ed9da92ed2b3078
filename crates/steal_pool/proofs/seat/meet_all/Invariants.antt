use Rattle.std.proofs.Common.{◌≡◌, ◌++◌, ◌-◌, List, map, length}
use Rattle.steal_pool.specs.Seats.{SeatState, grown, new_thieves}
use Rattle.steal_pool.specs.WorkerSeats.{state_of}
use Rattle.steal_pool.proofs.seat.meet_all.Given as goal

abbrev pub invariant-loop-seat : goal.invariant-loop-seat
invariant-loop-seat l = (first : List SeatState) × (rest : List SeatState)
    × (map state_of l.initial.seats ≡ first ++ rest)
    × (length first ≡ l.seat-index)
    × (map state_of l.seats ≡ map (grown l.initial.owner.deque) first ++ rest)
    × (l.owner ≡ record { deque = l.initial.owner.deque; capacity = l.initial.owner.capacity; parts = l.initial.owner.parts - length first; put = l.initial.owner.put; taken = l.initial.owner.taken })
    × (l.thieves.items ≡ new_thieves first)
