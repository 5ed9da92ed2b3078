use Rattle.std.proofs.Common.{ap, map, take, length, get_or, arith}
use Rattle.std.proofs.lemmas.List.{take_more}
use Rattle.steal_pool.specs.Seats.{SeatState}
use Rattle.steal_pool.specs.declared.seat.WorkerSeat.{WorkerSeat}
use Rattle.steal_pool.specs.WorkerSeats.{state_of}
use Rattle.steal_pool.proofs.SeatLists.{map-snoc}
use Rattle.steal_pool.proofs.seat.put_count.Goals as goal
use Rattle.lemmas.proofs.Lists.{total_push}
use Rattle.lemmas.specs.Counts.{total}

pub loop-seat-preserved : goal.loop-seat-preserved
loop-seat-preserved c =
    let seats = c.args.seats.now in
    let at = c.loop-seat.seat-index in
    let item = get_or seats at c.seat-item.result in
    let more = ap (λ z. total (λ (s : SeatState). length s.owner.put) (map state_of z)) (take_more seats at c.seat-item.result (omega (arith, c.loop-seat-test.true))) in
    let last = ap (total (λ (s : SeatState). length s.owner.put)) (map-snoc state_of (take at seats) item) in
    let sum = total_push (λ (s : SeatState). length s.owner.put) (map state_of (take at seats)) (state_of item) in
    omega (arith, more, last, sum, c.loop-seat.invariant, c.in_ok-count.ensures.1, c.put_count.ensures, ap (λ (s : WorkerSeat). length s.owner.put) c.seat-item.is)
