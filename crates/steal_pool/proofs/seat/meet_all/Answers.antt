use Rattle.std.proofs.Common.{◌≡◌, ◌<◌, ◌++◌, ◌∷◌, [], ap, ◌∙◌, sym, map, length-append, append_assoc, get_or, subst, arith}
use Rattle.std.proofs.lemmas.List.{length-map}
use Rattle.lemmas.specs.Lists.{Each}
use Rattle.steal_pool.specs.Seats.{SeatState, OwnerState, grown, new_thieves, new_thief}
use Rattle.steal_pool.specs.WorkerSeats.{state_of}
use Rattle.steal_pool.proofs.SeatLists.{at_seam, each-middle, map-snoc, owner_next}
use Rattle.steal_pool.proofs.seat.meet_all.Goals as goal

pub meet-requires-clause-seat : goal.meet-requires-clause-seat
meet-requires-clause-seat c =
    let inv = c.loop-seat.invariant in
    let d = c.args.owner.now.deque in
    let seam = at_seam state_of c.loop-seat.seats (map (grown d) inv.0) inv.1 c.loop-seat.seat-index c.seat-item.result inv.4 (length-map inv.0 (grown d) ∙ inv.3) (omega (arith, c.loop-seat-test.true)) in
    each-middle (λ (s : SeatState). 1 < s.owner.parts) inv.0 _ seam.0 (subst (Each (λ (s : SeatState). 1 < s.owner.parts)) (inv.2 ∙ ap (λ z. inv.0 ++ z) seam.1) c.requires.seats)

pub loop-seat-preserved : goal.loop-seat-preserved
loop-seat-preserved c =
    let inv = c.loop-seat.invariant in
    let first = inv.0 in
    let owner = c.args.owner.now in
    let d = owner.deque in
    let item = get_or c.loop-seat.seats c.loop-seat.seat-index c.seat-item.result in
    let s : SeatState = state_of item in
    let seam = at_seam state_of c.loop-seat.seats (map (grown d) first) inv.1 c.loop-seat.seat-index c.seat-item.result inv.4 (length-map first (grown d) ∙ inv.3) (omega (arith, c.loop-seat-test.true)) in
    let met = c.in_ok-thief.ensures in
    let here : state_of c.meet.new.seat ≡ grown d s = met.0 ∙ ap (λ (o : OwnerState). grown o.deque s) inv.5 in (
      first ++ s ∷ [],
      seam.0,
      inv.2 ∙ ap (λ z. first ++ z) seam.1 ∙ sym (append_assoc first (s ∷ []) seam.0),
      omega (arith, inv.3, length-append first (s ∷ [])),
      seam.2 c.meet.new.seat ∙ ap (λ x. (map (grown d) first ++ x ∷ []) ++ seam.0) here ∙ ap (λ z. z ++ seam.0) (sym (map-snoc (grown d) first s)),
      owner_next owner c.loop-seat.owner c.meet.new.owner first s inv.5 met.1,
      c.in_ok-push.ensures.items ∙ ap (λ z. z ++ c.in_ok-thief.thief ∷ []) inv.6 ∙ ap (λ t. new_thieves first ++ t ∷ []) met.2 ∙ sym (map-snoc (λ (x : SeatState). new_thief x.owner.deque) first s),
    )
