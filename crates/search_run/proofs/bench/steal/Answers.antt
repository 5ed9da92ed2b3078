-- At first nothing was stolen.
use Rattle.std.proofs.Common.{arith}
use Rattle.search_run.proofs.Work.{steals_none, stole_at}
use Rattle.search_run.proofs.bench.steal.Goals as goal

pub loop-step-init : goal.loop-step-init
loop-step-init g c = steals_none c.args.thieves.now

pub returns-in-Some : goal.returns-in-Some
returns-in-Some g c = stole_at c.args.thieves.now c.loop-step.thieves _ c.index-thieves-at.result c.steal.new.self c.steal.result c.loop-step.invariant
    (omega (arith, c.loop-step.auto.thieves, c.loop-step-test.true)) c.steal.ensures.seat c.steal.ensures.stolen
