-- Those so far, and those that are left.
use Rattle.std.proofs.Common.{◌≡◌, ◌+◌, length}
use Rattle.std.specs.Vec.Iter.{into_iter_items}
use Rattle.search_run.proofs.search.search_seats.Given as goal

abbrev pub invariant-loop-seat : goal.invariant-loop-seat
invariant-loop-seat l = length l.own.items + length (into_iter_items l.left) ≡ length l.fn.seats.items

abbrev pub decreases-loop-seat : goal.decreases-loop-seat
decreases-loop-seat l = length (into_iter_items l.left)
