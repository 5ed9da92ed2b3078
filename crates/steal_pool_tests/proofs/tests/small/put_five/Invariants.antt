-- The seat stays the same one.
use Rattle.std.proofs.Common.{◌≡◌}
use Rattle.steal_pool.specs.WorkerSeats.{seat_of}
use Rattle.steal_pool_tests.proofs.tests.small.put_five.Given as goal

abbrev pub invariant-loop-number : goal.invariant-loop-number
invariant-loop-number l = seat_of l.seat ≡ seat_of l.initial.seat
