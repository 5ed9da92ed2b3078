-- Of the lines so far none is doubted any more.
use Rattle.std.proofs.Common.{◌≡◌, ◌<◌, false, ℕ, length, get_or}
use Rattle.propagate.specs.Doubting.{AreDoubted}
use Rattle.propagate.proofs.stepping.step_doubted.Given as goal
use Rattle.solid_model.specs.Decisions.{decided_by}
use Rattle.solid_model.specs.Demands.{lines_of, AllMet}

abbrev pub invariant-loop-number : goal.invariant-loop-number
invariant-loop-number l =
    let p = l.fn.partial.problem in record {
      same : l.partial ≡ l.fn.partial;
      met : AllMet p (decided_by l.fn.partial.decisions);
      end : l.number-end ≡ length (lines_of p.grid);
      doubted : AreDoubted p l.fn.partial.decisions l.doubted;
      none : (k : ℕ) → k < l.number → get_or l.doubted k false ≡ false;
    }
