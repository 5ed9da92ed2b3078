use Rattle.std.proofs.Common.{map, ap, refl, sym, ◌∙◌}
use Rattle.steal_pool.specs.WorkerSeats.{seat_of}
use Rattle.steal_pool_tests.proofs.SeatLists.{ends_alike}
use Rattle.steal_pool_tests.proofs.tests.small.played_and_closed.Goals as goal

pub close-requires : goal.close-requires
close-requires g c =
    let firsts = ap (map seat_of) c.in-Ok-push.ensures.items ∙ ends_alike _ _ c.in_ok-first.first c.play.new.first refl c.play.ensures.first ∙ ap (map seat_of) (sym c.in_ok-first.ensures.items) in
    let both = ap (map seat_of) c.in-Ok-push-2.ensures.items ∙ ends_alike _ _ c.in_ok-second.second c.play.new.second firsts c.play.ensures.second ∙ ap (map seat_of) (sym c.in_ok-second.ensures.items) in
    both ∙ c.in-Ok.ensures.seats
