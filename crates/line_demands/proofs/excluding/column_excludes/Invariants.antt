-- No cell so far excludes the value.
use Rattle.std.proofs.Common.{◌<◌, ℕ}
use Rattle.line_demands.specs.Excluding.{ExcludesAt}
use Rattle.line_demands.proofs.excluding.column_excludes.Given as goal

abbrev pub invariant-loop-depth : goal.invariant-loop-depth
invariant-loop-depth l = (k : ℕ) → k < l.depth → ExcludesAt l.problem l.seen l.of_after k l.block l.value → ⊥
