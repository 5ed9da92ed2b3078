-- Each has stolen more, or nothing.
use Rattle.search_run.specs.Worked.{StealsOn}
use Rattle.search_run.proofs.bench.steal.Given as goal

abbrev pub invariant-loop-step : goal.invariant-loop-step
invariant-loop-step g l = StealsOn l.fn.thieves l.thieves
