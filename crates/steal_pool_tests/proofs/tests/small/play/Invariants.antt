use Rattle.std.proofs.Common.{◌≡◌}
use Rattle.steal_pool.specs.WorkerSeats.{seat_of}
use Rattle.steal_pool_tests.proofs.tests.small.play.Given as goal

abbrev pub invariant-loop-number : goal.invariant-loop-number
invariant-loop-number g l = seat_of l.first ≡ seat_of l.initial.first
