use Rattle.search_run.specs.Worked.{WorksOn}
use Rattle.steal_pool.specs.WorkerSeats.{state_of}
use Rattle.search_run.proofs.bench.Bench.give.Given as goal

abbrev pub invariant-loop-given : goal.invariant-loop-given
invariant-loop-given l = WorksOn l.fn.self (state_of l.self-inside.seat)
