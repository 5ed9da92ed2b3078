-- The first is that of the lines that are left.
use Rattle.std.proofs.Common.{◌≡◌, drop}
use Rattle.file_problem.specs.Cuts.{first_uncut}
use Rattle.file_problem.proofs.cuts.first_uncut.Given as goal

abbrev pub invariant-loop-line : goal.invariant-loop-line
invariant-loop-line l = first_uncut l.grid (drop l.line-index l.lines) ≡ first_uncut l.grid l.lines
