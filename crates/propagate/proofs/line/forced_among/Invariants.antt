-- What the cells that aren't left exclude. Those that are left are some of the cells, and the lowest of them stands higher each time.
use Rattle.std.proofs.Common.{◌≡◌, ◌-◌, ◌<◌, ◌^◌, true, ℕ}
use Rattle.line_demands.specs.Excluding.{ExcludesAt}
use Rattle.propagate.specs.Looking.{TellsLeast}
use Rattle.propagate.proofs.Least.{Taken}
use Rattle.propagate.proofs.line.forced_among.Given as goal
use Rattle.lemmas.specs.Bits.{is_set}
use Rattle.lemmas.proofs.WordBits.{zeros}

abbrev pub invariant-loop-left : goal.invariant-loop-left
invariant-loop-left l = record {
  fits : l.left < 2 ^ 64;
  within : (k : ℕ) → is_set l.left k ≡ true → is_set l.fn.cells k ≡ true;
  told : TellsLeast (Taken (ExcludesAt l.fn.problem l.fn.seen l.fn.of_after) l.fn.cells l.left) l.least;
}

abbrev pub decreases-loop-left : goal.decreases-loop-left
decreases-loop-left l = 64 - zeros l.left
