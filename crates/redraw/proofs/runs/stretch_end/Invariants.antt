-- The cells so far have the style of the first one.
use Rattle.std.proofs.Common.{◌≡◌, ◌<◌, ◌≤◌, ℕ}
use Rattle.redraw.specs.GridRuns.{cell_style}
use Rattle.redraw.proofs.runs.stretch_end.Given as goal

abbrev pub invariant-loop-cell : goal.invariant-loop-cell
invariant-loop-cell l = record {
  beyond : l.from < l.cell;
  same : (k : ℕ) → l.from ≤ k → k < l.cell → cell_style l.styles k ≡ cell_style l.styles l.from;
}
