-- The seat that is pushed back is the one that was popped.
use Rattle.std.proofs.Common.{map, ap, refl, sym, ◌∙◌}
use Rattle.steal_pool.specs.WorkerSeats.{seat_of}
use Rattle.steal_pool_tests.proofs.SeatLists.{ends_alike}
use Rattle.steal_pool_tests.proofs.tests.small.left_of_five.Goals as goal

pub close-requires : goal.close-requires
close-requires c =
    ap (map seat_of) c.in-Ok-push.ensures.items ∙ ends_alike _ _ c.in_ok-only.only c.put_five.new.seat refl c.put_five.ensures ∙ ap (map seat_of) (sym c.in_ok-only.ensures.items)
    ∙ c.in-Ok.ensures.seats
