use Rattle.std.proofs.Common.{◌≡◌, ◌<◌, ◌+◌, ◌++◌, ◌∷◌, [], List, map, drop, length, ap, sym, ◌∙◌, subst, arith}
use Rattle.std.proofs.lemmas.List.{length-map, take_at}
use Rattle.crossbeam_deque.specs.Handles.{stealer_deque}
use Rattle.lemmas.specs.Lists.{Each}
use Rattle.steal_pool.specs.Seats.{SeatState, new_seats}
use Rattle.steal_pool.specs.declared.rule.Account.{Account}
use Rattle.steal_pool.specs.declared.rule.Balance.{Balance}
use Rattle.solid_model.specs.declared.prefix.Prefix.{Prefix}
use Rattle.std.specs.declared.alloc.Global.{Global}
use Rattle.crossbeam_deque.specs.declared.handles.Stealer.{Stealer}
use Rattle.steal_pool.specs.WorkerSeats.{state_of}
use Rattle.steal_pool.proofs.SeatLists.{map-snoc}
use Rattle.steal_pool.proofs.Pools.{length-seats, parts-seats, each-weaker, added}
use Rattle.steal_pool.proofs.pool.add.Goals as goal

abbrev Handle : Type 0
Handle = Stealer Prefix Global Account Balance

few : (stealers : List Handle) → length stealers < 64 → length (map stealer_deque stealers) < 64
few stealers less = subst (λ n. n < 64) (sym (length-map stealers stealer_deque)) less

pub meet_all-requires-clause-seats : goal.meet_all-requires-clause-seats
meet_all-requires-clause-seats c =
    let stealers = c.args.stealers.now.items in
    let deques = map stealer_deque stealers in
    let less = few stealers c.requires.few in
    subst (λ seats. Each (λ (s : SeatState). 1 < s.owner.parts) (map state_of seats)) (sym c.as_mut_slice.ensures.value)
    (subst (Each (λ (s : SeatState). 1 < s.owner.parts)) (sym c.requires.seats)
    (each-weaker (λ (s : SeatState). s.owner.parts + length deques ≡ 65) (λ (s : SeatState). 1 < s.owner.parts) (new_seats c.args.capacity deques) (λ s p. omega (arith, p, less)) (parts-seats c.args.capacity deques (omega (arith, less)))))

pub meet_all-requires-clause-owner : goal.meet_all-requires-clause-owner
meet_all-requires-clause-owner c =
    let stealers = c.args.stealers.now.items in
    let seats = ap length c.as_mut_slice.ensures.value in
    let deques = ap length c.requires.seats in
    omega (arith, seats, deques, few stealers c.requires.few, length-map c.args.seats.now.items state_of, length-seats c.args.capacity (map stealer_deque stealers), c.in_ok-owner.ensures.1)

pub returns-clause-seats : goal.returns-clause-seats
returns-clause-seats c =
    let capacity = c.args.capacity in
    let stealers = c.args.stealers.now.items in
    let deques = map stealer_deque stealers in
    let owner = c.in_ok-owner.owner in
    let slice = c.as_mut_slice.result.now in
    let seats = c.meet_all.new.seats in
    let met = c.in_ok-thieves.ensures in
    let whole = take_at seats (drop (length seats) c.args.seats.now.items) c.args.seats.now.len (c.meet_all.auto.seats ∙ c.as_mut_slice.ensures.len) in
    let same : map state_of slice ≡ new_seats capacity deques = ap (map state_of) c.as_mut_slice.ensures.value ∙ c.requires.seats in
    let count : length slice ≡ length deques = let e = ap length same in omega (arith, e, length-map slice state_of, length-seats capacity deques) in
    ap (map state_of) c.in_ok-push-2.ensures.items ∙ map-snoc state_of _ (record { owner = c.meet_all.new.owner; thieves = c.in_ok-thieves.thieves })
    ∙ ap (λ ss. ss ++ record { owner = c.meet_all.new.owner; thieves = c.in_ok-thieves.thieves.items } ∷ []) (ap (map state_of) whole ∙ met.seats)
    ∙ added capacity (length slice) deques owner (stealer_deque c.in_ok-stealer.stealer) (map state_of slice) c.meet_all.new.owner c.in_ok-thieves.thieves.items same c.in_ok-owner.ensures count met.owner met.thieves c.in_ok-stealer.ensures
    ∙ ap (new_seats capacity) (sym (ap (map stealer_deque) c.in_ok-push.ensures.items ∙ map-snoc stealer_deque stealers c.in_ok-stealer.stealer))
