use Rattle.std.proofs.Common.{◌≡◌, ◌-◌, ◌≤◌, ◌++◌, List, length, vec_capacity}
use Rattle.crossbeam_deque.specs.Handles.{worker_view, worker_index, SameWorker}
use Rattle.steal_pool.specs.Accounts.{Piece, account}
use Rattle.steal_pool.proofs.owner.OwnerSeat.drain.Given as goal

abbrev pub invariant-loop-self : goal.invariant-loop-self
invariant-loop-self l = record {
  same : SameWorker l.initial.self-inside.worker l.self-inside.worker;
  index : worker_index l.self-inside.worker ≤ worker_index l.initial.self-inside.worker;
  capacity : l.self-inside.capacity ≡ l.initial.self-inside.capacity;
  count : l.self-inside.count ≡ l.initial.self-inside.count;
  reserved : vec_capacity l.left ≡ vec_capacity l.initial.left;
  moved : (more : List Piece) × (l.left.items ≡ l.initial.left.items ++ more)
      × (worker_view l.self-inside.worker ≡ account (worker_view l.initial.self-inside.worker).parts (worker_view l.initial.self-inside.worker).put ((worker_view l.initial.self-inside.worker).taken ++ more));
}

abbrev pub decreases-loop-self : goal.decreases-loop-self
decreases-loop-self l = length (worker_view l.self-inside.worker).put - length (worker_view l.self-inside.worker).taken
