use Rattle.std.proofs.Common.{◌≡◌, ◌≤◌, ◌+◌, ◌++◌, ◌∷◌, [], ℕ, List, map, drop, length, length-append, ap, sym, ◌∙◌, subst, arith}
use Rattle.std.proofs.lemmas.List.{length-map, take_at}
use Rattle.steal_pool.specs.Seats.{Deque, SeatState, new_seats, as_opened, AreMet, parted_seats, parted_owner, taken_by, put_by}
use Rattle.steal_pool.specs.declared.seat.WorkerSeat.{WorkerSeat}
use Rattle.steal_pool.specs.WorkerSeats.{state_of}
use Rattle.steal_pool.proofs.Passes.{ones}
use Rattle.steal_pool.proofs.SeatLists.{map-snoc}
use Rattle.steal_pool.proofs.Pools.{IsLast, last_seat, last_met, last_parted, last_weights_out, parted-put_by}
use Rattle.steal_pool.proofs.pool.take_all.Goals as goal
use Rattle.lemmas.proofs.Lists.{total_push}
use Rattle.lemmas.specs.Counts.{total}

popped : (old new : List WorkerSeat) (last : WorkerSeat) → old ≡ new ++ last ∷ [] → map state_of old ≡ map state_of new ++ state_of last ∷ []
popped old new last e = ap (map state_of) e ∙ map-snoc state_of new last

is_last : (capacity : ℕ) (deques : List Deque) (old new : List WorkerSeat) (last : WorkerSeat) → length deques ≤ 64 → map as_opened (map state_of old) ≡ new_seats capacity deques → old ≡ new ++ last ∷ []
    → IsLast capacity (map state_of new) (state_of last)
is_last capacity deques old new last few begun e = last_seat capacity deques (map state_of new) (state_of last) few (ap (map as_opened) (sym (popped old new last e)) ∙ begun)

pub take_last-requires-clause-met : goal.take_last-requires-clause-met
take_last-requires-clause-met c =
    let inv = c.loop-last.invariant.seats in
    let is = is_last inv.0 inv.1 c.loop-last.seats.items c.pop.new.self.items c.in-Some.last inv.2 inv.3 c.in-Some.ensures.items in
    subst (λ seats. AreMet c.in-Some.last.owner.deque (map state_of seats) c.in-Some.last.thieves.items) (sym c.as_mut_slice.ensures.value) (last_met inv.0 (map state_of c.pop.new.self.items) (state_of c.in-Some.last) is)

pub take_last-requires-clause-parts : goal.take_last-requires-clause-parts
take_last-requires-clause-parts c =
    let inv = c.loop-last.invariant.seats in
    let is = is_last inv.0 inv.1 c.loop-last.seats.items c.pop.new.self.items c.in-Some.last inv.2 inv.3 c.in-Some.ensures.items in
    let parts = is.parts in
    let seats = ap length c.as_mut_slice.ensures.value in
    omega (arith, parts, seats, length-map c.pop.new.self.items state_of)

pub take_last-requires-clause-capacity : goal.take_last-requires-clause-capacity
take_last-requires-clause-capacity c =
    let sum = ap (total (λ (s : SeatState). length s.owner.put)) (popped c.loop-last.seats.items c.pop.new.self.items c.in-Some.last c.in-Some.ensures.items) in
    omega (arith, sum, total_push (λ (s : SeatState). length s.owner.put) (map state_of c.pop.new.self.items) (state_of c.in-Some.last), c.loop-last.invariant.capacity)

pub loop-last-preserved : goal.loop-last-preserved
loop-last-preserved c =
    let inv = c.loop-last.invariant in
    let last = c.in-Some.last in
    let before = map state_of c.pop.new.self.items in
    let is = is_last inv.seats.0 inv.seats.1 c.loop-last.seats.items c.pop.new.self.items last inv.seats.2 inv.seats.3 c.in-Some.ensures.items in
    let met = last_met inv.seats.0 before (state_of last) is in
    let whole = take_at c.take_last.new.seats (drop (length c.take_last.new.seats) c.pop.new.self.items) c.pop.new.self.len (c.take_last.auto.seats ∙ c.as_mut_slice.ensures.len) in
    let parted = ap (map state_of) whole ∙ c.take_last.ensures.seats ∙ ap (λ seats. parted_seats (map state_of seats) last.thieves.items) c.as_mut_slice.ensures.value in
    let left = c.take_last.ensures.left in
    let old = popped c.loop-last.seats.items c.pop.new.self.items last c.in-Some.ensures.items in
    record {
      seats = (inv.seats.0, is.front, (let few = is.few in omega arith), ap (map as_opened) parted ∙ last_parted inv.seats.0 before (state_of last) is);
      capacity =
          let now = ap (total (λ (s : SeatState). length s.owner.put)) parted ∙ parted-put_by length before last.thieves.items in
          let was = ap (total (λ (s : SeatState). length s.owner.put)) old in
          let items = ap length left.1 in
          omega (
            arith,
            now,
            was,
            items,
            total_push (λ (s : SeatState). length s.owner.put) before (state_of last),
            length-append c.loop-last.left.items left.0,
            left.2 (λ _. 1),
            ones last.owner.put,
            ones left.0,
            c.take_last.ensures.capacity,
            inv.capacity,
            c.take_last.new.left.ok,
            c.loop-last.left.ok,
          );
      weights = λ h.
          let begun = c.args.left.now.items in
          let put = total (put_by h) (map state_of c.args.seats.items) in
          let taken = total (taken_by h) (map state_of c.args.seats.items) in
          let out = last_weights_out h before (state_of last) left.0 c.loop-last.left.items begun put taken met (left.2 h ∙ ap (λ (seats : List WorkerSeat). total h (parted_owner last.owner (map state_of seats)).taken + total h left.0) c.as_mut_slice.ensures.value)
          (subst (λ (ss : List SeatState). (put + total (taken_by h) ss) + total h begun ≡ (taken + total (put_by h) ss) + total h c.loop-last.left.items) old (inv.weights h)) in
          omega (arith, out, ap (total (taken_by h)) parted, ap (total (put_by h)) parted, ap (total h) left.1);
    }
