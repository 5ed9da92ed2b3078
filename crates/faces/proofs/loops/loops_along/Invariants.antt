-- The loops so far.
use Rattle.std.proofs.Common.{◌≡◌, map, take}
use Rattle.faces.specs.Border.{loop_along}
use Rattle.faces.proofs.loops.loops_along.Given as goal

abbrev pub invariant-loop-round : goal.invariant-loop-round
invariant-loop-round l = l.loops.items ≡ map (loop_along l.border.squares.now l.border.up_first) (map (λ r. r.items) (take l.round-index l.rounds))
