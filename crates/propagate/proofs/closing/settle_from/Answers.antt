-- One decision more is looked at.
use Rattle.std.proofs.Common.{◌+◌, IsTrue, refl, sym, subst, ◌∙◌, arith}
use Rattle.propagate.specs.Closing.{IsHandled, Grows}
use Rattle.propagate.proofs.Chains.{grows_self, grows_both}
use Rattle.propagate.proofs.Handled.{handled_calm}
use Rattle.propagate.proofs.closing.settle_from.Goals as goal
use Rattle.solid_model.specs.Blocks.{ProblemParts}
use Rattle.solid_model.specs.Decisions.{decided_by}
use Rattle.solid_model.specs.Demands.{has_line, AllMet, IsFirstBroken}

pub loop-at-init : goal.loop-at-init
loop-at-init c = record {
  problem = refl;
  grows = grows_self c.args.partial.now.problem c.args.partial.now.decisions;
  met = c.requires.met;
  handled = c.requires.handled;
}

pub settle_touching-requires-clause-met : goal.settle_touching-requires-clause-met
settle_touching-requires-clause-met c = subst (λ (q : ProblemParts). AllMet q (decided_by c.loop-at.partial.decisions)) (sym c.loop-at.invariant.problem) c.loop-at.invariant.met

pub returns-in-Some-clause-grows : goal.returns-in-Some-clause-grows
returns-in-Some-clause-grows c =
    let now = c.loop-at.partial.decisions in
    let new = c.settle_touching.new.partial.decisions in
    grows_both c.args.partial.now.problem c.args.partial.now.decisions now new c.loop-at.invariant.grows
    (subst (λ (q : ProblemParts). Grows q now new) c.loop-at.invariant.problem c.settle_touching.ensures.grows)

pub returns-in-Some-clause-lost : goal.returns-in-Some-clause-lost
returns-in-Some-clause-lost c =
    let new = c.settle_touching.new.partial.decisions in
    subst (λ (q : ProblemParts). IsFirstBroken q (decided_by new) c.in-Some.line) c.loop-at.invariant.problem c.in-Some.ensures.lost

pub loop-at-preserved : goal.loop-at-preserved
loop-at-preserved c =
    let p = c.args.partial.now.problem in
    let old = c.args.partial.now.decisions in
    let now = c.loop-at.partial.decisions in
    let new = c.settle_touching.new.partial.decisions in
    let inv = c.loop-at.invariant in record {
      problem = c.settle_touching.ensures.problem ∙ inv.problem;
      grows = grows_both p old now new inv.grows (subst (λ (q : ProblemParts). Grows q now new) inv.problem c.settle_touching.ensures.grows);
      met = subst (λ (q : ProblemParts). AllMet q (decided_by new)) inv.problem (c.settle_touching.ensures.met c.in_default.is);
      handled = λ m has. subst (λ (q : ProblemParts). IsHandled q new (c.loop-at.at + 1) m) inv.problem (c.settle_touching.ensures.done c.in_default.is m
          (subst (λ (q : ProblemParts). IsTrue (has_line q.grid m)) (sym inv.problem) has) (subst (λ (q : ProblemParts). IsHandled q now c.loop-at.at m) (sym inv.problem) (inv.handled m has)));
    }

pub returns-clause-done : goal.returns-clause-done
returns-clause-done c = λ _ m has. handled_calm c.args.partial.now.problem c.loop-at.partial.decisions c.loop-at.at
    (omega (arith, c.decided.ensures.count, c.loop-at-test.false)) m (c.loop-at.invariant.handled m has)
