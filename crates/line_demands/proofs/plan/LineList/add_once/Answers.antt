-- It is there, or it is added.
use Rattle.std.proofs.Common.{subst, sym}
use Rattle.line_demands.specs.Plans.{IsAddedOnce}
use Rattle.line_demands.proofs.Gathering.{once_new}
use Rattle.line_demands.proofs.plan.LineList.add_once.Goals as goal

pub returns-clause-once : goal.returns-clause-once
returns-clause-once c = subst (λ old. IsAddedOnce c.args.line old c.push.new.self.items) c.self.view_is
    (subst (IsAddedOnce c.args.line c.self.inside.items.items) (sym c.in_ok-push.ensures.items) (once_new c.args.line c.self.inside.items.items))
