-- The lines that are still to be looked at are the later ones.
use Rattle.std.proofs.Common.{◌≡◌, ◌⊎◌, ◌+◌, ◌%◌, false, ℕ, drop, slice_get, Some, IsTrue}
use Rattle.line_demands.specs.Touching.{lines_touching, touching}
use Rattle.propagate.specs.Closing.{IsHandled, Grows}
use Rattle.propagate.proofs.closing.settle_touching.Given as goal
use Rattle.solid_model.specs.declared.line_id.LineId.{LineId}
use Rattle.lemmas.specs.Bits.{is_set}
use Rattle.solid_model.specs.Decisions.{decided_by}
use Rattle.solid_model.specs.Demands.{has_line, AllMet}
use Rattle.lemmas.specs.Lists.{Member}

abbrev pub invariant-loop-place : goal.invariant-loop-place
invariant-loop-place l =
    let p = l.fn.partial.problem in record {
      problem : l.partial.problem ≡ p;
      grows : Grows p l.fn.partial.decisions l.partial.decisions;
      met : AllMet p (decided_by l.partial.decisions);
      end : l.place-end ≡ touching p l.block;
      free : (k : ℕ) (m : LineId) → slice_get (lines_touching p l.block) k ≡ Some m → is_set l.doubts (k % 64) ≡ false → IsHandled p l.partial.decisions (l.at + 1) m;
      left : (m : LineId) → IsTrue (has_line p.grid m) → IsHandled p l.fn.partial.decisions l.at m
          → IsHandled p l.partial.decisions (l.at + 1) m ⊎ Member (drop l.place (lines_touching p l.block)) m;
    }
