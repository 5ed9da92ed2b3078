use Rattle.std.proofs.Common.{◌≡◌, ◌++◌, map, take}
use Rattle.solid_model.specs.Runs.{run_style}
use Rattle.grid.proofs.panels.with_line.Given as goal

abbrev pub invariant-loop-start : goal.invariant-loop-start
invariant-loop-start l = l.styles.items ≡ l.fn.styles.items ++ map (run_style l.runs l.line) (take l.start-index l.starts)
