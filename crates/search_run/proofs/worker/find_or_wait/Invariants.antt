use Rattle.search_run.specs.Worked.{WorksOn}
use Rattle.search_run.proofs.worker.find_or_wait.Given as goal

abbrev pub invariant-loop : goal.invariant-loop
invariant-loop g l = WorksOn l.fn.bench l.bench
