-- One column more; and all of them.
use Rattle.std.proofs.Common.{◌≡◌, length, ap, subst, arith}
use Rattle.lemmas.proofs.Pushed.{HoldsSoFar, holds_more}
use Rattle.faces.proofs.PointEnds.{IsColumnAt}
use Rattle.faces.proofs.ends.turned.Goals as goal

pub loop-number-init : goal.loop-number-init
loop-number-init c = record { count = ap length c.in_ok-columns.ensures.items; each = λ p d l. absurd (omega arith) }

pub loop-number-preserved : goal.loop-number-preserved
loop-number-preserved c =
    holds_more (IsColumnAt c.args.rows.now) c.loop-number.columns.items _ _ c.some_column.result c.loop-number.invariant c.some_column.ensures
    c.in_ok-push.ensures.items

pub returns : goal.returns
returns c =
    let end : c.loop-number.number ≡ 64 = omega (arith, c.loop-number-test.false) in
    let all = subst (HoldsSoFar (IsColumnAt c.args.rows.now) c.loop-number.columns.items) end c.loop-number.invariant in
    record { count = all.count; each = λ j k l m. all.each j 0 l k m }
