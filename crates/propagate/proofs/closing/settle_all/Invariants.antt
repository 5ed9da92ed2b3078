-- The lines that are still to be looked at are the later ones.
use Rattle.std.proofs.Common.{◌≡◌, ◌⊎◌, length, drop, IsTrue}
use Rattle.propagate.specs.Closing.{IsHandled, Grows}
use Rattle.propagate.proofs.closing.settle_all.Given as goal
use Rattle.solid_model.specs.declared.line_id.LineId.{LineId}
use Rattle.solid_model.specs.Decisions.{decided_by}
use Rattle.solid_model.specs.Demands.{has_line, lines_of, AllMet}
use Rattle.lemmas.specs.Lists.{Member}

abbrev pub invariant-loop-number : goal.invariant-loop-number
invariant-loop-number l =
    let p = l.fn.partial.problem in
    let old = l.fn.partial.decisions in record {
      problem : l.partial.problem ≡ p;
      grows : Grows p old l.partial.decisions;
      met : AllMet p (decided_by l.partial.decisions);
      end : l.number-end ≡ length (lines_of p.grid);
      left : (m : LineId) → IsTrue (has_line p.grid m) → IsHandled p l.partial.decisions (length old) m ⊎ Member (drop l.number (lines_of p.grid)) m;
    }
