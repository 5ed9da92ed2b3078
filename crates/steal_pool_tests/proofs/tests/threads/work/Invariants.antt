use Rattle.std.proofs.Common.{◌≡◌}
use Rattle.steal_pool.specs.WorkerSeats.{seat_of}
use Rattle.steal_pool_tests.proofs.tests.threads.work.Given as goal

abbrev pub invariant-loop : goal.invariant-loop
invariant-loop g l = seat_of l.worker.seat ≡ seat_of l.initial.worker.seat
