-- The first runs are written.
use Rattle.std.proofs.Common.{◌≡◌, ◌++◌, take}
use Rattle.redraw.specs.GridRuns.{runs_text}
use Rattle.redraw.proofs.text.push_runs.Given as goal

abbrev pub invariant-loop-run : goal.invariant-loop-run
invariant-loop-run l = l.text.items ≡ l.initial.text.items ++ runs_text l.decimals l.place.view l.upright l.place.right l.place.up (take l.run-index l.runs)
