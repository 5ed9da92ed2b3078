-- There is one for each deque.
use Rattle.std.proofs.Common.{length, sym, ◌∙◌, ap}
use Rattle.std.proofs.lemmas.List.{length-map}
use Rattle.std.specs.List.{length_refill}
use Rattle.steal_pool.specs.WorkerSeats.{state_of}
use Rattle.steal_pool.proofs.Pools.{length-seats}
use Rattle.search_run.proofs.opening.seats_at.Goals as goal

pub returns : goal.returns
returns c =
    let seats = c.in_ok-seats.seats in
    let (deques, count, are) = c.in_ok-seats.ensures.new in
    sym (length_refill seats.len seats.items c.put_first.new.seats seats.ok.0) ∙ seats.ok.0 ∙ sym (length-map seats.items state_of) ∙ ap length are ∙ length-seats _ deques ∙ count
