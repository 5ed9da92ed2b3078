-- What is joined so far and what is left are the lists.
use Rattle.std.proofs.Common.{◌≡◌, ◌++◌, length}
use Rattle.std.specs.List.{flat_map}
use Rattle.std.specs.Vec.Iter.{into_iter_items}
use Rattle.search_end.proofs.turns.joined.Given as goal

abbrev pub invariant-loop-list : goal.invariant-loop-list
invariant-loop-list l = l.all.items ++ flat_map (λ list. list.items) (into_iter_items l.left) ≡ flat_map (λ list. list.items) l.fn.lists.items

abbrev pub decreases-loop-list : goal.decreases-loop-list
decreases-loop-list l = length (into_iter_items l.left)
