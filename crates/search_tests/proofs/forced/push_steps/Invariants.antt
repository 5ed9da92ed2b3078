-- What isn't doubted is known to exclude nothing.
use Rattle.propagate.specs.Doubting.{AreDoubted}
use Rattle.search_tests.proofs.forced.push_steps.Given as goal

abbrev pub invariant-loop-step : goal.invariant-loop-step
invariant-loop-step l = AreDoubted l.other.problem l.other.decisions l.doubted
