-- One line more is looked at.
use Rattle.std.proofs.Common.{◌≡◌, ◌<◌, ◌≤◌, inl, inr, length, get_or, slice_get, Some, refl, sym, subst, ◌∙◌, arith}
use Rattle.std.proofs.lemmas.Option.{slice_get-get_or}
use Rattle.column_laws.proofs.AllLines.{lines_are_listed}
use Rattle.propagate.proofs.Steps.{no_line}
use Rattle.propagate.specs.Closing.{IsHandled, Grows}
use Rattle.propagate.proofs.Chains.{grows_self, grows_both, grows_length}
use Rattle.propagate.proofs.Handled.{left_after, none_left}
use Rattle.propagate.proofs.closing.settle_all.Goals as goal
use Rattle.solid_model.specs.Blocks.{ProblemParts}
use Rattle.solid_model.specs.Decisions.{decided_by}
use Rattle.solid_model.specs.Demands.{lines_of, AllMet, IsFirstBroken}

pub loop-number-init : goal.loop-number-init
loop-number-init c =
    let p = c.args.partial.now.problem in record {
      problem = refl;
      grows = grows_self p c.args.partial.now.decisions;
      met = c.requires.met;
      end = c.line_count-number-end.ensures;
      left = λ m has. inr (lines_are_listed p.grid m has);
    }

pub settle_line-requires-clause-number : goal.settle_line-requires-clause-number
settle_line-requires-clause-number c = subst (λ (q : ProblemParts). c.loop-number.number < length (lines_of q.grid)) (sym c.loop-number.invariant.problem)
    (omega (arith, c.loop-number.invariant.end, c.loop-number-test.true))

pub settle_line-requires-clause-met : goal.settle_line-requires-clause-met
settle_line-requires-clause-met c = subst (λ (q : ProblemParts). AllMet q (decided_by c.loop-number.partial.decisions)) (sym c.loop-number.invariant.problem) c.loop-number.invariant.met

pub returns-in-Some-clause-grows : goal.returns-in-Some-clause-grows
returns-in-Some-clause-grows c =
    let now = c.loop-number.partial.decisions in
    let new = c.settle_line.new.partial.decisions in
    grows_both c.args.partial.now.problem c.args.partial.now.decisions now new c.loop-number.invariant.grows
    (subst (λ (q : ProblemParts). Grows q now new) c.loop-number.invariant.problem c.settle_line.ensures.grows)

pub returns-in-Some-clause-lost : goal.returns-in-Some-clause-lost
returns-in-Some-clause-lost c =
    let new = c.settle_line.new.partial.decisions in
    subst (λ (q : ProblemParts). IsFirstBroken q (decided_by new) c.in-Some.line) c.loop-number.invariant.problem c.in-Some.ensures.lost

pub loop-number-preserved : goal.loop-number-preserved
loop-number-preserved c =
    let p = c.args.partial.now.problem in
    let old = c.args.partial.now.decisions in
    let now = c.loop-number.partial.decisions in
    let new = c.settle_line.new.partial.decisions in
    let inv = c.loop-number.invariant in
    let from = length old in
    let few : from ≤ length now = grows_length p old now inv.grows in
    let lines = lines_of c.loop-number.partial.problem.grid in
    let line = get_or lines c.loop-number.number no_line in record {
      problem = c.settle_line.ensures.problem ∙ inv.problem;
      grows = grows_both p old now new inv.grows (subst (λ (q : ProblemParts). Grows q now new) inv.problem c.settle_line.ensures.grows);
      met = subst (λ (q : ProblemParts). AllMet q (decided_by new)) inv.problem (c.settle_line.ensures.met c.in_default.is);
      end = inv.end;
      left = λ m has. left_after p (λ _. Unit {0}) now new from c.loop-number.number (lines_of p.grid) line
          (subst (λ (q : ProblemParts). slice_get (lines_of q.grid) c.loop-number.number ≡ Some line) inv.problem
          (slice_get-get_or lines c.loop-number.number no_line (subst (λ (q : ProblemParts). c.loop-number.number < length (lines_of q.grid)) (sym inv.problem)
          (omega (arith, inv.end, c.loop-number-test.true))))) (λ m has _. inv.left m has)
          (λ m h. subst (λ (q : ProblemParts). IsHandled q new from m) inv.problem (c.settle_line.ensures.kept from few m (subst (λ (q : ProblemParts). IsHandled q now from m) (sym inv.problem) h)))
          (subst (λ (q : ProblemParts). IsHandled q new from line) inv.problem (c.settle_line.ensures.done from no_line few)) m has tt;
    }

pub returns-clause-done : goal.returns-clause-done
returns-clause-done c = λ _ m has.
    let p = c.args.partial.now.problem in
    elim (c.loop-number.invariant.left m has) as (λ _. IsHandled p c.loop-number.partial.decisions (length c.args.partial.now.decisions) m) [
      | inl handled ↦ handled
      | inr rest ↦ absurd (none_left (lines_of p.grid) c.loop-number.number m (omega (arith, c.loop-number.invariant.end, c.loop-number-test.false)) rest)
    ]
