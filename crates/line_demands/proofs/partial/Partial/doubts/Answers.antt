-- It was told when the decision was taken.
use Rattle.std.proofs.Common.{◌≡◌, ◌+◌, take, get_or, slice_get, Some, ap, sym, subst, ◌∙◌}
use Rattle.line_demands.specs.Free.{LeaveFreeBut}
use Rattle.line_demands.proofs.partial.Partial.doubts.Goals as goal
use Rattle.solid_model.specs.Decisions.{PartialParts, decided_by}

pub returns : goal.returns
returns c = λ d is.
    let self = c.self.inside in
    let n = c.index.result.now in
    let there = subst (λ (v : PartialParts). slice_get v.decisions c.args.at ≡ Some d) (sym c.self.view_is) is in
    subst (λ (v : PartialParts). LeaveFreeBut v.problem (decided_by (take (c.args.at + 1) v.decisions)) d.block n) c.self.view_is
    (subst (LeaveFreeBut self.problem.now (decided_by (take (c.args.at + 1) self.decisions.items)) d.block) (ap (λ k. get_or self.doubts.items k n) (sym c.from.ensures) ∙ sym c.index.ensures)
    (c.self.invariant.2.each c.args.at d n there))
