use Rattle.std.proofs.Common.{◌≡◌, ◌%◌, get_or, ap, ◌∙◌}
use Rattle.std.proofs.Math.Seq.{map-set_same}
use Rattle.steal_pool.specs.Seats.{opened_owner, opened_thief}
use Rattle.steal_pool_tests.proofs.tests.threads.steal.Goals as goal

pub returns : goal.returns
returns g c =
    let ts = c.args.seat.now.thieves.items in
    let at = c.args.number % c.len-others.result in
    let t = c.in_ok-get_mut.field-0.now in
    let same : opened_thief t ≡ opened_thief (get_or ts at t) = ap opened_thief c.in_ok-get_mut.ensures.value in
    let thieves = map-set_same opened_thief ts at c.steal.new.self t (c.steal.ensures.seat ∙ same) in
    λ i. record { owner = opened_owner c.args.seat.now.owner; thieves = thieves i }
