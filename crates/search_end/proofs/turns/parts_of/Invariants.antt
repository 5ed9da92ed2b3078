-- The parts so far, the one that goes on and what is left are the choices.
use Rattle.std.proofs.Common.{◌≡◌, ◌++◌, length}
use Rattle.std.specs.List.{flat_map}
use Rattle.std.specs.Vec.Iter.{into_iter_items}
use Rattle.search_end.proofs.turns.parts_of.Given as goal

abbrev pub invariant-loop-choice : goal.invariant-loop-choice
invariant-loop-choice l = flat_map (λ part. part.choices.items) l.parts.items ++ (l.part.items ++ into_iter_items l.left) ≡ l.fn.choices.items

abbrev pub decreases-loop-choice : goal.decreases-loop-choice
decreases-loop-choice l = length (into_iter_items l.left)
