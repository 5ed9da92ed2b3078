-- On none of the lines so far something is drawn.
use Rattle.std.proofs.Common.{ℕ, ◌<◌}
use Rattle.fit_lanes.specs.Drawn.{DrawsLine}
use Rattle.fit_lanes.proofs.points.first_line.Given as goal

abbrev pub invariant-loop-line : goal.invariant-loop-line
invariant-loop-line l = (m : ℕ) → m < l.line → DrawsLine l.width l.height l.upright l.drawn m → ⊥
