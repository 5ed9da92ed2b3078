-- The turns so far, the one that goes on and what is left are the parts.
use Rattle.std.proofs.Common.{◌≡◌, ◌++◌, length}
use Rattle.std.specs.List.{flat_map}
use Rattle.std.specs.Vec.Iter.{into_iter_items}
use Rattle.search_end.proofs.turns.turns_of.Given as goal

abbrev pub invariant-loop-part : goal.invariant-loop-part
invariant-loop-part l = flat_map (λ turn. turn.items) l.turns.items ++ (l.choices.items ++ flat_map (λ part. part.choices.items) (into_iter_items l.left))
    ≡ flat_map (λ part. part.choices.items) l.fn.parts.items

abbrev pub decreases-loop-part : goal.decreases-loop-part
decreases-loop-part l = length (into_iter_items l.left)
