-- The readers so far, and those that are left.
use Rattle.std.proofs.Common.{◌≡◌, ◌+◌, ◌++◌, length, map}
use Rattle.std.specs.Vec.Iter.{into_iter_items}
use Rattle.session_run.proofs.players.players_of.Given as goal

abbrev pub invariant-loop-reader : goal.invariant-loop-reader
invariant-loop-reader g l = record {
  readers : map (λ x. x.reader) l.players.items ++ into_iter_items l.left ≡ l.fn.readers.items;
  count : length l.players.items + length (into_iter_items l.left) ≡ length l.fn.readers.items;
}

abbrev pub decreases-loop-reader : goal.decreases-loop-reader
decreases-loop-reader g l = length (into_iter_items l.left)
