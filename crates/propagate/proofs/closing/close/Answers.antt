-- All lines are looked at, and then those that the decisions since touch.
use Rattle.std.proofs.Common.{IsTrue, refl, sym, subst}
use Rattle.propagate.specs.Closing.{IsHandled, Grows}
use Rattle.propagate.specs.Forced.{IsCalm}
use Rattle.propagate.proofs.Chains.{grows_self, grows_both, closed_stable, closed_conflict}
use Rattle.propagate.proofs.closing.close.Goals as goal
use Rattle.solid_model.specs.Blocks.{ProblemParts}
use Rattle.solid_model.specs.Decisions.{decided_by}
use Rattle.solid_model.specs.Demands.{has_line, AllMet, IsFirstBroken}

pub returns-in-Some-clause-grows : goal.returns-in-Some-clause-grows
returns-in-Some-clause-grows c = grows_self c.args.partial.now.problem c.args.partial.now.decisions

pub returns-in-Some-clause-closed : goal.returns-in-Some-clause-closed
returns-in-Some-clause-closed c =
    let p = c.args.partial.now.problem in
    let old = c.args.partial.now.decisions in
    closed_conflict p old old c.in-Some.line (grows_self p old) c.in-Some.ensures.some

pub settle_all-requires : goal.settle_all-requires
settle_all-requires c = record { met = c.broken_line.ensures.none.0 c.in_default.is }

pub returns-in-Some-settle_all-clause-closed : goal.returns-in-Some-settle_all-clause-closed
returns-in-Some-settle_all-clause-closed c =
    closed_conflict c.args.partial.now.problem c.args.partial.now.decisions c.settle_all.new.partial.decisions c.in-Some-settle_all.line c.settle_all.ensures.grows c.in-Some-settle_all.ensures.lost

pub settle_from-requires-clause-handled : goal.settle_from-requires-clause-handled
settle_from-requires-clause-handled c = λ m has.
    let p = c.args.partial.now.problem in
    let mid = c.settle_all.new.partial.decisions in
    subst (λ (q : ProblemParts). IsHandled q mid c.decided-from.result m) (sym c.settle_all.ensures.problem)
    (subst (λ n. IsHandled p mid n m) (sym c.decided-from.ensures.count)
    (c.settle_all.ensures.done c.in_default-settle_all.is m (subst (λ (q : ProblemParts). IsTrue (has_line q.grid m)) c.settle_all.ensures.problem has)))

pub settle_from-requires-clause-met : goal.settle_from-requires-clause-met
settle_from-requires-clause-met c = subst (λ (q : ProblemParts). AllMet q (decided_by c.settle_all.new.partial.decisions)) (sym c.settle_all.ensures.problem) (c.settle_all.ensures.met c.in_default-settle_all.is)

pub returns-in-Some-settle_from-clause-grows : goal.returns-in-Some-settle_from-clause-grows
returns-in-Some-settle_from-clause-grows c =
    let mid = c.settle_all.new.partial.decisions in
    let new = c.settle_from.new.partial.decisions in
    grows_both c.args.partial.now.problem c.args.partial.now.decisions mid new c.settle_all.ensures.grows
    (subst (λ (q : ProblemParts). Grows q mid new) c.settle_all.ensures.problem c.settle_from.ensures.grows)

pub returns-in-None-clause-grows : goal.returns-in-None-clause-grows
returns-in-None-clause-grows c =
    let mid = c.settle_all.new.partial.decisions in
    let new = c.settle_from.new.partial.decisions in
    grows_both c.args.partial.now.problem c.args.partial.now.decisions mid new c.settle_all.ensures.grows
    (subst (λ (q : ProblemParts). Grows q mid new) c.settle_all.ensures.problem c.settle_from.ensures.grows)

pub returns-in-Some-settle_from-clause-closed : goal.returns-in-Some-settle_from-clause-closed
returns-in-Some-settle_from-clause-closed c =
    let p = c.args.partial.now.problem in
    let old = c.args.partial.now.decisions in
    let mid = c.settle_all.new.partial.decisions in
    let new = c.settle_from.new.partial.decisions in
    closed_conflict p old new c.in-Some-settle_from.line (grows_both p old mid new c.settle_all.ensures.grows (subst (λ (q : ProblemParts). Grows q mid new) c.settle_all.ensures.problem c.settle_from.ensures.grows))
    (subst (λ (q : ProblemParts). IsFirstBroken q (decided_by new) c.in-Some-settle_from.line) c.settle_all.ensures.problem c.in-Some-settle_from.ensures.lost)

pub returns-in-None-clause-closed : goal.returns-in-None-clause-closed
returns-in-None-clause-closed c =
    let p = c.args.partial.now.problem in
    let old = c.args.partial.now.decisions in
    let mid = c.settle_all.new.partial.decisions in
    let new = c.settle_from.new.partial.decisions in
    closed_stable p old new (grows_both p old mid new c.settle_all.ensures.grows (subst (λ (q : ProblemParts). Grows q mid new) c.settle_all.ensures.problem c.settle_from.ensures.grows))
    (subst (λ (q : ProblemParts). AllMet q (decided_by new)) c.settle_all.ensures.problem (c.in-None.ensures.met refl))
    (λ m has. subst (λ (q : ProblemParts). IsCalm q (decided_by new) m) c.settle_all.ensures.problem
    (c.in-None.ensures.done refl m (subst (λ (q : ProblemParts). IsTrue (has_line q.grid m)) (sym c.settle_all.ensures.problem) has)))
