-- The runs of the lines so far.
use Rattle.redraw.proofs.AllLines.{AreRunsOfFirst}
use Rattle.redraw.proofs.runs.runs_on.Given as goal

abbrev pub invariant-loop-place : goal.invariant-loop-place
invariant-loop-place l = AreRunsOfFirst l.lines l.ends l.styles l.place l.runs.items
