use Rattle.std.proofs.Common.{ap, ◌∙◌, arith, subst, sym}
use Rattle.std.proofs.lemmas.Int.{ints}
use Rattle.solid_model.specs.Runs.{run_style, AreRuns}
use Rattle.views.specs.Joined.{EndBy}
use Rattle.views.proofs.Sweeping.{nothing_beyond}
use Rattle.views.proofs.sweep.Sweep.before.Goals as goal

pub returns-clause-sweep : goal.returns-clause-sweep
returns-clause-sweep c = record {
  are_runs = subst AreRuns (sym c.new.ensures.items) (tt, tt);
  end_by = subst (EndBy _ _) (sym c.new.ensures.items) tt;
}

pub returns-clause-drawn : goal.returns-clause-drawn
returns-clause-drawn c = λ j z.
    nothing_beyond (run_style c.new.result.items j z) _ _ _ _ j z (omega (arith, ints)) (omega (arith, ints))
    ∙ ap (λ rs. run_style rs j z) c.new.ensures.items
