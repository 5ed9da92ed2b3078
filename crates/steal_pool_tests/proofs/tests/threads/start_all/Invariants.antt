use Rattle.std.proofs.Common.{◌≡◌, ◌++◌, map}
use Rattle.std.specs.Vec.Iter.{into_iter_items}
use Rattle.steal_pool.specs.WorkerSeats.{seat_of}
use Rattle.steal_pool_tests.proofs.tests.threads.start_all.Given as goal

abbrev pub invariant-loop-seat : goal.invariant-loop-seat
invariant-loop-seat g l = map (λ h. seat_of h.promise.0.value) l.all.items ++ map seat_of (into_iter_items l.seat-iterator) ≡ map seat_of l.fn.seats.items
