-- One point more, busy or bare; and all of them.
use Rattle.std.proofs.Common.{◌+◌, ◌-◌, ap, sym, subst, ◌∙◌, arith}
use Rattle.fit_lanes.specs.Busy.{AreBusy}
use Rattle.fit_lanes.proofs.BusyPoints.{busy_none, busy_without, busy_with, busy_all}
use Rattle.fit_lanes.proofs.busy_points.busy_points.Goals as goal
use Rattle.fit_lanes.proofs.busy_points.busy_points.Goals.{then-not-is_bare+in_ok-push, else-not-is_bare}

pub loop-after-init : goal.loop-after-init
loop-after-init c = subst (AreBusy c.args.sights.now c.args.stride (c.args.stride - c.args.stride)) (sym c.new-points.ensures.items)
    (busy_none c.args.sights.now c.args.stride (c.args.stride - c.args.stride) (omega arith))

pub loop-after-preserved : goal.loop-after-preserved
loop-after-preserved c = elim c.if-not-is_bare.branch [
  | then-not-is_bare+in_ok-push w ↦ subst (λ xs. AreBusy c.args.sights.now c.args.stride (c.loop-after.after + 1 - c.args.stride) xs)
      (sym (ap (λ v. v.items) w.points-is ∙ w.in_ok-push.ensures.items))
      (busy_with c.args.sights.now c.args.stride _ (c.loop-after.after - c.args.stride) _ (omega arith) c.loop-after.invariant)
  | else-not-is_bare w ↦ subst (λ xs. AreBusy c.args.sights.now c.args.stride (c.loop-after.after + 1 - c.args.stride) xs)
      (sym (ap (λ v. v.items) w.points-is))
      (busy_without c.args.sights.now c.args.stride _ (c.loop-after.after - c.args.stride) _ (omega arith) c.loop-after.invariant (c.is_bare.ensures w.if-not-is_bare.false))
]

pub returns : goal.returns
returns c = busy_all c.args.sights.now c.args.stride _ _ _ (omega arith) c.loop-after.invariant
