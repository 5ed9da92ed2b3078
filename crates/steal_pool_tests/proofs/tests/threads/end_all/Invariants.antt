use Rattle.std.proofs.Common.{◌≡◌, ◌++◌, map}
use Rattle.std.specs.Vec.Iter.{into_iter_items}
use Rattle.steal_pool.specs.WorkerSeats.{seat_of}
use Rattle.steal_pool_tests.proofs.tests.threads.end_all.Given as goal

abbrev pub invariant-loop-running : goal.invariant-loop-running
invariant-loop-running g l = map seat_of l.seats.items ++ map (λ h. seat_of h.promise.0.value) (into_iter_items l.running-iterator) ≡ map (λ h. seat_of h.promise.0.value) l.fn.all.items
