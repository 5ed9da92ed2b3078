use Rattle.std.proofs.Common.{◌≡◌, ◌++◌, ◌∷◌, [], ap, ◌∙◌, sym, map, length-append, get_or, subst, arith}
use Rattle.std.proofs.lemmas.List.{length-map}
use Rattle.std.specs.Vec.Iter.{into_iter_items}
use Rattle.steal_pool.specs.Seats.{SeatState, OwnerState, EndsAt, shrunk, parted_seats, parted_owner}
use Rattle.steal_pool.specs.WorkerSeats.{state_of}
use Rattle.steal_pool.proofs.SeatLists.{at_seam, met_next, never_met, seats_next, seats_end, absorbed_last-deque}
use Rattle.steal_pool.proofs.seat.leave_all.Goals as goal

pub leave-requires-clause-thief : goal.leave-requires-clause-thief
leave-requires-clause-thief c =
    let inv = c.loop-seat.invariant in
    let seam = at_seam state_of c.loop-seat.seats inv.0 inv.1 c.loop-seat.seat-index c.seat-item.result inv.3 inv.2 (omega (arith, c.loop-seat-test.true)) in
    (met_next c.args.owner.now.deque inv.1 _ seam.0 (into_iter_items c.loop-seat.thieves) c.in-Some.thief (into_iter_items c.next.new.self) seam.1 c.in-Some.ensures.items inv.5).0

pub leave-requires-clause-last : goal.leave-requires-clause-last
leave-requires-clause-last c =
    let inv = c.loop-seat.invariant in
    let seam = at_seam state_of c.loop-seat.seats inv.0 inv.1 c.loop-seat.seat-index c.seat-item.result inv.3 inv.2 (omega (arith, c.loop-seat-test.true)) in
    subst (λ d. EndsAt d (get_or c.loop-seat.seats c.loop-seat.seat-index c.seat-item.result).thieves.items) (sym inv.4)
    (met_next c.args.owner.now.deque inv.1 _ seam.0 (into_iter_items c.loop-seat.thieves) c.in-Some.thief (into_iter_items c.next.new.self) seam.1 c.in-Some.ensures.items inv.5).1

pub loop-seat-preserved : goal.loop-seat-preserved
loop-seat-preserved c =
    let inv = c.loop-seat.invariant in
    let d = c.args.owner.now.deque in
    let item = get_or c.loop-seat.seats c.loop-seat.seat-index c.seat-item.result in
    let s : SeatState = state_of item in
    let thief = c.in-Some.thief in
    let left = into_iter_items c.loop-seat.thieves in
    let others = into_iter_items c.next.new.self in
    let seam = at_seam state_of c.loop-seat.seats inv.0 inv.1 c.loop-seat.seat-index c.seat-item.result inv.3 inv.2 (omega (arith, c.loop-seat-test.true)) in (
      inv.0 ++ shrunk s thief ∷ [],
      seam.0,
      omega (arith, inv.2, length-append inv.0 (shrunk s thief ∷ [])),
      seam.2 c.leave.new.seat ∙ ap (λ x. (inv.0 ++ x ∷ []) ++ seam.0) c.leave.ensures.seat,
      ap (λ (o : OwnerState). o.deque) c.leave.ensures.owner ∙ absorbed_last-deque c.loop-seat.owner item.thieves.items ∙ inv.4,
      (met_next d inv.1 s seam.0 left thief others seam.1 c.in-Some.ensures.items inv.5).2,
      seats_next inv.0 inv.1 s seam.0 left thief others _ seam.1 c.in-Some.ensures.items inv.6,
      inv.7 ∙ ap (parted_owner c.loop-seat.owner) seam.1 ∙ ap (λ (o : OwnerState). parted_owner o seam.0) (sym c.leave.ensures.owner),
    )

never : (c : goal.After-drop-thieves) → ⊥
never c =
    let inv = c.loop-seat.invariant in
    let seam = at_seam state_of c.loop-seat.seats inv.0 inv.1 c.loop-seat.seat-index c.seat-item.result inv.3 inv.2 (omega (arith, c.loop-seat-test.true)) in
    never_met c.args.owner.now.deque inv.1 _ seam.0 (into_iter_items c.loop-seat.thieves) seam.1 (omega (arith, c.in_default.ensures.cases.0, c.loop-seat.thieves.rest.ok)) inv.5

pub returns-in_default-clause-seats : goal.returns-in_default-clause-seats
returns-in_default-clause-seats c = absurd (never c)

pub returns-in_default-clause-owner : goal.returns-in_default-clause-owner
returns-in_default-clause-owner c = absurd (never c)

none : (c : goal.After-drop-thieves-2) → c.loop-seat.invariant.1 ≡ []
none c =
    let inv = c.loop-seat.invariant in
    seats_end inv.0 inv.1 [] (map state_of c.loop-seat.seats) c.loop-seat.seat-index inv.3 inv.2 (omega (arith, length-map c.loop-seat.seats state_of, c.loop-seat-test.false))

pub returns-clause-seats : goal.returns-clause-seats
returns-clause-seats c =
    let inv = c.loop-seat.invariant in
    inv.3 ∙ ap (λ z. inv.0 ++ z) (none c) ∙ sym (inv.6 ∙ ap (λ z. inv.0 ++ parted_seats z (into_iter_items c.loop-seat.thieves)) (none c))
    ∙ ap (parted_seats (map state_of c.args.seats.now)) c.into_iter-thieves.ensures.rest

pub returns-clause-owner : goal.returns-clause-owner
returns-clause-owner c =
    let inv = c.loop-seat.invariant in
    sym (inv.7 ∙ ap (parted_owner c.loop-seat.owner) (none c))
