-- Whether the line can be met is known, or tried.
use Rattle.std.proofs.Common.{ap, subst, ◌∙◌, arith}
use Rattle.std.proofs.lemmas.Bool.{both_ways}
use Rattle.std.proofs.lemmas.List.{get_or_default}
use Rattle.line_demands.specs.Lines.{AreFreeBeside, IsMetBy}
use Rattle.line_demands.proofs.MarkedLines.{last_there, last_other}
use Rattle.line_demands.proofs.lines.try_line.Goals as goal
use Rattle.lemmas.specs.Counts.{times_listed}

pub returns-then-is_met-clause-tried : goal.returns-then-is_met-clause-tried
returns-then-is_met-clause-tried g c = λ d. (
  λ none. (none, subst (IsMetBy c.args.columns.now) (get_or_default c.args.sides.now c.args.line _ d c.requires.there) (c.is_met.ensures.met.0 c.if-is_met.true)),
  λ both. both.0,
)

pub returns-then-is_met-clause-free : goal.returns-then-is_met-clause-free
returns-then-is_met-clause-free g c = λ none d _. subst (AreFreeBeside c.args.columns.now) (get_or_default c.args.sides.now c.args.line _ d c.requires.there) (c.may_force.ensures none)

pub returns-then-met-line-clause-tried : goal.returns-then-met-line-clause-tried
returns-then-met-line-clause-tried g c = λ d. (
  λ none. absurd (let e = ap (times_listed c.args.line) c.break_line.ensures.broken ∙ last_there c.args.broken.now.items c.args.line in omega arith),
  λ both. absurd (both_ways c.is_met.result c.if-is_met.false (c.is_met.ensures.met.1 (subst (IsMetBy c.args.columns.now) (get_or_default c.args.sides.now c.args.line d _ c.requires.there) both.1))),
)

pub returns-then-met-line-clause-others : goal.returns-then-met-line-clause-others
returns-then-met-line-clause-others g c = λ i off. ap (times_listed i) c.break_line.ensures.broken ∙ last_other c.args.broken.now.items c.args.line i off

pub returns-then-met-line-clause-free : goal.returns-then-met-line-clause-free
returns-then-met-line-clause-free g c = λ _ d none.
    absurd (let e = ap (times_listed c.args.line) c.break_line.ensures.broken ∙ last_there c.args.broken.now.items c.args.line in omega (arith, none, e))
