-- The lines so far exclude nothing.
use Rattle.std.proofs.Common.{◌≡◌, length, take}
use Rattle.propagate.specs.Forced.{IsCalm}
use Rattle.propagate.proofs.stepping.step.Given as goal
use Rattle.solid_model.specs.declared.line_id.LineId.{LineId}
use Rattle.solid_model.specs.Decisions.{decided_by}
use Rattle.solid_model.specs.Demands.{lines_of, AllMet}
use Rattle.lemmas.specs.Lists.{Member}

abbrev pub invariant-loop-number : goal.invariant-loop-number
invariant-loop-number l = record {
  same : l.partial ≡ l.fn.partial;
  met : AllMet l.fn.partial.problem (decided_by l.fn.partial.decisions);
  end : l.number-end ≡ length (lines_of l.fn.partial.problem.grid);
  calm : (m : LineId) → Member (take l.number (lines_of l.fn.partial.problem.grid)) m → IsCalm l.fn.partial.problem (decided_by l.fn.partial.decisions) m;
}
