-- One number more.
use Rattle.std.proofs.Common.{◌+◌, take, sym, subst, arith, Some}
use Rattle.std.proofs.lemmas.List.{take_all}
use Rattle.line_demands.specs.Lines.{IsLeast}
use Rattle.line_demands.proofs.LeastBroken.{least_more}
use Rattle.line_demands.proofs.lines.least.Goals as goal

pub loop-number-preserved : goal.loop-number-preserved
loop-number-preserved c = subst (λ n. IsLeast (take (c.loop-number.number-index + 1) c.args.numbers.now) (Some n)) (sym c.lesser.ensures) (least_more c.args.numbers.now c.loop-number.number-index 0 c.loop-number-test.true c.loop-number.least c.loop-number.invariant)

pub returns : goal.returns
returns c = subst (λ ns. IsLeast ns c.loop-number.least) (take_all c.loop-number.number-index c.args.numbers.now (omega arith)) c.loop-number.invariant
