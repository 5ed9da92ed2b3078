use Rattle.std.proofs.Common.{◌≡◌, map, take}
use Rattle.std.specs.List.{flat_map}
use Rattle.solid_model.specs.Runs.{run_style}
use Rattle.grid.proofs.panels.styles_on.Given as goal

abbrev pub invariant-loop-line : goal.invariant-loop-line
invariant-loop-line l = l.styles.items ≡ flat_map (λ line. map (run_style l.runs line) l.starts) (take l.line-index l.lines)
