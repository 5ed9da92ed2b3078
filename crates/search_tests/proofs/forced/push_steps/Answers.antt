-- At first all lines are doubted.
use Rattle.std.proofs.Common.{subst, sym}
use Rattle.propagate.specs.Doubting.{AreDoubted}
use Rattle.propagate.proofs.Doubting.{all_doubted}
use Rattle.search_tests.proofs.forced.push_steps.Goals as goal

pub loop-step-init : goal.loop-step-init
loop-step-init c =
    let p = c.args.other.now.problem in
    let ds = c.args.other.now.decisions in
    subst (AreDoubted p ds) (sym c.in_ok-doubted.ensures) (all_doubted p ds c.line_count.result c.line_count.ensures)
