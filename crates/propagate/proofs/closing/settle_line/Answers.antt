-- The line excludes nothing, or is to be looked at again once its decision is taken.
use Rattle.std.proofs.Common.{◌∷◌, ◌++◌, [], not, get_or, inl, inr, ap, sym, subst}
use Rattle.std.specs.Prelude.{IfSome}
use Rattle.propagate.specs.Closing.{IsHandled, Grows}
use Rattle.propagate.specs.Forced.{IsCalm}
use Rattle.propagate.proofs.Chains.{grows_self, grows_on}
use Rattle.propagate.proofs.Handled.{excluded_there, awaits_new, handled_on}
use Rattle.propagate.proofs.closing.settle_line.Goals as goal
use Rattle.solid_model.specs.declared.line_id.LineId.{LineId}
use Rattle.solid_model.specs.Blocks.{ProblemParts, IsBlocksOf}
use Rattle.solid_model.specs.Decisions.{decided_by, PartialParts}
use Rattle.solid_model.specs.Demands.{lines_of, AllMet, IsFirstBroken}

pub forced_by_line-requires-clause-met : goal.forced_by_line-requires-clause-met
forced_by_line-requires-clause-met c = c.requires.met c.seen-seen.result.line c.seen-seen.ensures.seen.has

pub decide-requires-clause-there : goal.decide-requires-clause-there
decide-requires-clause-there c =
    let p = c.args.partial.now.problem in
    let d = c.in_ok-decision.decision in
    (excluded_there p c.known.ensures.blocks (decided_by c.args.partial.now.decisions) c.seen-seen.result.line d.block (not d.full) c.in_ok-decision.ensures.is).0

pub decide-requires-clause-open : goal.decide-requires-clause-open
decide-requires-clause-open c = c.in_ok-decision.ensures.is.0

pub returns-in_err-decision-clause-grows : goal.returns-in_err-decision-clause-grows
returns-in_err-decision-clause-grows c = grows_self c.args.partial.now.problem c.args.partial.now.decisions

pub returns-in_err-decision-clause-lost : goal.returns-in_err-decision-clause-lost
returns-in_err-decision-clause-lost c = subst (λ r. IfSome r (IsFirstBroken c.args.partial.now.problem (decided_by c.args.partial.now.decisions))) (sym c.from_residual.ensures) tt

pub returns-in_err-decision-clause-done : goal.returns-in_err-decision-clause-done
returns-in_err-decision-clause-done c = λ from e few.
    inl (subst (IsCalm c.args.partial.now.problem (decided_by c.args.partial.now.decisions)) (c.seen-seen.ensures.line e) c.in_err-decision.ensures)

pub returns-clause-grows : goal.returns-clause-grows
returns-clause-grows c =
    let p = c.args.partial.now.problem in
    let ds = c.args.partial.now.decisions in
    let d = c.in_ok-decision.decision in
    let is = c.in_ok-decision.ensures.is in
    subst (Grows p ds) (sym (ap (λ (v : PartialParts). v.decisions) c.decide.ensures.decided))
    (grows_on p ds ds d (grows_self p ds) is.0 (is.0, c.seen-seen.result.line, c.seen-seen.ensures.seen.has, is.1))

pub returns-clause-lost : goal.returns-clause-lost
returns-clause-lost c = subst (λ (q : ProblemParts). IfSome c.broken_line.result (IsFirstBroken q (decided_by c.decide.new.self.decisions))) (ap (λ (v : PartialParts). v.problem) c.decide.ensures.decided) c.broken_line.ensures.some

pub returns-clause-met : goal.returns-clause-met
returns-clause-met c = λ none. subst (λ (q : ProblemParts). AllMet q (decided_by c.decide.new.self.decisions)) (ap (λ (v : PartialParts). v.problem) c.decide.ensures.decided) (c.broken_line.ensures.none.0 none)

pub returns-clause-done : goal.returns-clause-done
returns-clause-done c = λ from e few.
    let p = c.args.partial.now.problem in
    let ds = c.args.partial.now.decisions in
    let d = c.in_ok-decision.decision in
    let is = c.in_ok-decision.ensures.is in
    let blocks = c.known.ensures.blocks in
    let there = excluded_there p blocks (decided_by ds) c.seen-seen.result.line d.block (not d.full) is in
    subst (λ now. IsHandled p now from (get_or (lines_of p.grid) c.args.number e)) (sym (ap (λ (v : PartialParts). v.decisions) c.decide.ensures.decided))
    (subst (λ (l : LineId). IsHandled p (ds ++ d ∷ []) from l) (c.seen-seen.ensures.line e) (inr (awaits_new p blocks ds d is.0 from few c.seen-seen.result.line there.1)))

pub returns-clause-kept : goal.returns-clause-kept
returns-clause-kept c = λ from few l h.
    let p = c.args.partial.now.problem in
    let ds = c.args.partial.now.decisions in
    let d = c.in_ok-decision.decision in
    let blocks = c.known.ensures.blocks in
    subst (λ now. IsHandled p now from l) (sym (ap (λ (v : PartialParts). v.decisions) c.decide.ensures.decided)) (handled_on p blocks ds d c.in_ok-decision.ensures.is.0 from few l h)
