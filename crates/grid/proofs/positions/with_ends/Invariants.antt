use Rattle.std.proofs.Common.{◌≡◌, ◌++◌, take}
use Rattle.grid.specs.Positions.{ends_of}
use Rattle.grid.proofs.positions.with_ends.Given as goal

abbrev pub invariant-loop-run : goal.invariant-loop-run
invariant-loop-run l = l.positions.items ≡ l.fn.positions.items ++ ends_of (take l.run-index l.runs)
