use Rattle.std.proofs.Common.{◌+◌, map, length, ap, sym, ◌∙◌, arith}
use Rattle.std.proofs.lemmas.List.{length-map}
use Rattle.steal_pool.specs.Seats.{OwnerState}
use Rattle.steal_pool.specs.WorkerSeats.{state_of}
use Rattle.steal_pool.proofs.Pools.{parted_owner-put, parted_owner-parts}
use Rattle.steal_pool.proofs.pool.take_last.Goals as goal
use Rattle.lemmas.specs.Counts.{total}

pub drain-requires-clause-whole : goal.drain-requires-clause-whole
drain-requires-clause-whole c =
    let last = c.args.last in
    let seats = map state_of c.args.seats.now in
    let owner = ap (λ (o : OwnerState). o.parts) c.leave_all.ensures.owner in
    let all = parted_owner-parts last.owner.deque last.owner seats last.thieves.items c.requires.met in
    omega (arith, owner, all, length-map c.args.seats.now state_of, c.requires.parts)

pub drain-requires-clause-capacity : goal.drain-requires-clause-capacity
drain-requires-clause-capacity c =
    let put = ap (λ (o : OwnerState). length o.put) c.leave_all.ensures.owner ∙ ap length (parted_owner-put c.args.last.owner (map state_of c.args.seats.now)) in
    omega (arith, put, c.requires.capacity)

pub returns-clause-left : goal.returns-clause-left
returns-clause-left c =
    let left = c.drain.ensures.left in
    let put = ap (λ (o : OwnerState). o.put) c.leave_all.ensures.owner ∙ parted_owner-put c.args.last.owner (map state_of c.args.seats.now) in
    let taken = ap (λ (o : OwnerState). o.taken) c.leave_all.ensures.owner in
    (left.0, left.1, λ h. sym (ap (total h) put) ∙ left.3 h ∙ ap (λ ts. total h ts + total h left.0) taken)
