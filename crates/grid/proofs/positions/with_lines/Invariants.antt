use Rattle.std.proofs.Common.{◌≡◌, ◌++◌, take}
use Rattle.grid.specs.Positions.{run_lines}
use Rattle.grid.proofs.positions.with_lines.Given as goal

abbrev pub invariant-loop-run : goal.invariant-loop-run
invariant-loop-run l = l.positions.items ≡ l.fn.positions.items ++ run_lines (take l.run-index l.runs)
