-- The decisions are looked at one after another, and there are no more of them than blocks.
use Rattle.std.proofs.Common.{◌≡◌, ◌-◌, IsTrue}
use Rattle.propagate.specs.Closing.{IsHandled, Grows}
use Rattle.propagate.proofs.closing.settle_from.Given as goal
use Rattle.solid_model.specs.declared.line_id.LineId.{LineId}
use Rattle.solid_model.specs.Decisions.{decided_by}
use Rattle.solid_model.specs.Demands.{has_line, AllMet}

abbrev pub invariant-loop-at : goal.invariant-loop-at
invariant-loop-at l =
    let p = l.fn.partial.problem in record {
      problem : l.partial.problem ≡ p;
      grows : Grows p l.fn.partial.decisions l.partial.decisions;
      met : AllMet p (decided_by l.partial.decisions);
      handled : (m : LineId) → IsTrue (has_line p.grid m) → IsHandled p l.partial.decisions l.at m;
    }

abbrev pub decreases-loop-at : goal.decreases-loop-at
decreases-loop-at l = l.fn.partial.problem.blocks.count - l.at
