use Rattle.std.proofs.Common.{◌≤◌, sym, ◌∙◌, subst}
use Rattle.std.proofs.lemmas.List.{length-map}
use Rattle.std.proofs.lemmas.Simd.{map-map}
use Rattle.crossbeam_deque.specs.Handles.{stealer_deque}
use Rattle.steal_pool.specs.Seats.{as_opened}
use Rattle.steal_pool.specs.WorkerSeats.{state_of}
use Rattle.steal_pool.proofs.pool.Pool.close.Goals as goal

pub take_all-requires-clause-seats : goal.take_all-requires-clause-seats
take_all-requires-clause-seats c =
    let few = subst (λ n. n ≤ 64) (sym (length-map c.self.inside.stealers.items stealer_deque)) c.self.invariant in
    (_, _, few, map-map as_opened state_of _ ∙ c.requires ∙ sym c.self.view_is)
