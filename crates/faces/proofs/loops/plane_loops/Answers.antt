-- The rounds of the border are all loops.
use Rattle.std.proofs.Common.{ap, map}
use Rattle.std.proofs.lemmas.Result.{IfOk-weaker}
use Rattle.faces.proofs.BorderRounds.{loops_listed}
use Rattle.faces.proofs.loops.plane_loops.Goals as goal

pub returns : goal.returns
returns c =
    IfOk-weaker c.loops_along.result _ _
    (λ loops is. loops_listed c.args.squares.now c.of-border.result.squares.now c.args.up_first c.of-border.result.up_first
    (map (λ r. r.items) c.in_ok-rounds.rounds.items) (map (λ r. r.items) c.as_slice-2.result.now) loops.items
    c.of-border.ensures.squares c.of-border.ensures.order c.in_ok-rounds.ensures
    (ap (map (λ r. r.items)) c.as_slice-2.ensures.value) is)
    c.loops_along.ensures
