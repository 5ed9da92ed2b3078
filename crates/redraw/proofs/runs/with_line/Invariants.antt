-- The runs of the cells so far stand behind those that were there.
use Rattle.std.proofs.Common.{length, ◌-◌}
use Rattle.redraw.proofs.LineRuns.{AreRunsBefore}
use Rattle.redraw.proofs.runs.with_line.Given as goal

abbrev pub invariant-loop-cell : goal.invariant-loop-cell
invariant-loop-cell l = AreRunsBefore l.at l.ends l.styles l.initial.runs.items l.cell l.runs.items

abbrev pub decreases-loop-cell : goal.decreases-loop-cell
decreases-loop-cell l = length l.styles - l.cell
