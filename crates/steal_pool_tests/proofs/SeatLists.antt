-- Lists of seats that are alike.
use Rattle.std.proofs.Common.{◌≡◌, List, [], ◌∷◌, ◌++◌, map, sym, ◌∙◌}
use Rattle.std.proofs.lemmas.List.{map-append}
use Rattle.steal_pool.specs.declared.seat.WorkerSeat.{WorkerSeat}
use Rattle.steal_pool.specs.WorkerSeats.{seat_of}

-- seats that end with the same one
pub ends_alike : (old new : List WorkerSeat) (s t : WorkerSeat) → map seat_of new ≡ map seat_of old → seat_of t ≡ seat_of s → map seat_of (new ++ t ∷ []) ≡ map seat_of (old ++ s ∷ [])
ends_alike old new s t e f = map-append seat_of new (t ∷ []) ∙ (λ i. e i ++ f i ∷ []) ∙ sym (map-append seat_of old (s ∷ []))
