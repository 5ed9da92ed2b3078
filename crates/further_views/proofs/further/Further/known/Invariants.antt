-- Those so far have lists of runs.
use Rattle.std.proofs.Common.{take}
use Rattle.further_views.specs.Further.{HasRuns}
use Rattle.further_views.proofs.further.Further.known.Given as goal

abbrev pub invariant-loop-view : goal.invariant-loop-view
invariant-loop-view l = HasRuns (take l.view-index l.self)
