use Rattle.std.proofs.Common.{◌≡◌, ◌≤◌, ◌+◌, ℕ, List, map, length, vec_len, vec_capacity}
use Rattle.steal_pool.specs.Accounts.{Piece}
use Rattle.steal_pool.specs.Seats.{Deque, SeatState, new_seats, as_opened, taken_by, put_by}
use Rattle.steal_pool.specs.WorkerSeats.{state_of}
use Rattle.steal_pool.proofs.pool.take_all.Given as goal
use Rattle.lemmas.specs.Counts.{total}

abbrev pub invariant-loop-last : goal.invariant-loop-last
invariant-loop-last l = record {
  seats : (capacity : ℕ) × (deques : List Deque) × (length deques ≤ 64) × (map as_opened (map state_of l.seats.items) ≡ new_seats capacity deques);
  capacity : vec_len l.left + total (λ (s : SeatState). length s.owner.put) (map state_of l.seats.items) ≤ vec_capacity l.left;
  weights : (h : Piece → ℕ) → (total (put_by h) (map state_of l.initial.seats.items) + total (taken_by h) (map state_of l.seats.items)) + total h l.initial.left.items
      ≡ (total (taken_by h) (map state_of l.initial.seats.items) + total (put_by h) (map state_of l.seats.items)) + total h l.left.items;
}

abbrev pub decreases-loop-last : goal.decreases-loop-last
decreases-loop-last l = vec_len l.seats
