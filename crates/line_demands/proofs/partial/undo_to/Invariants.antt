-- The first decisions are left as they were. Each turn takes one back.
use Rattle.std.proofs.Common.{◌≡◌, ◌≤◌, length, take}
use Rattle.line_demands.proofs.partial.undo_to.Given as goal

abbrev pub invariant-loop-partial : goal.invariant-loop-partial
invariant-loop-partial l = record {
  problem : l.partial.problem ≡ l.fn.partial.problem;
  few : l.mark ≤ length l.partial.decisions;
  same : take l.mark l.partial.decisions ≡ take l.mark l.fn.partial.decisions;
}

abbrev pub decreases-loop-partial : goal.decreases-loop-partial
decreases-loop-partial l = length l.partial.decisions
