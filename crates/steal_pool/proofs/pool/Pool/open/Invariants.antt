use Rattle.std.proofs.Common.{◌≡◌, map, length}
use Rattle.crossbeam_deque.specs.Handles.{stealer_deque}
use Rattle.steal_pool.specs.Seats.{new_seats}
use Rattle.steal_pool.specs.WorkerSeats.{state_of}
use Rattle.steal_pool.proofs.pool.Pool.open.Given as goal

abbrev pub invariant-loop : goal.invariant-loop
invariant-loop l = record {
  seats : map state_of l.seats.items ≡ new_seats l.capacity (map stealer_deque l.stealers.items);
  count : length l.stealers.items ≡ l.counter;
}
