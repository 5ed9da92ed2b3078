-- None of the runs so far covers the place.
use Rattle.std.proofs.Common.{◌≡◌, map, drop}
use Rattle.solid_model.specs.Runs.{run_style}
use Rattle.six_views.specs.MovedRuns.{moved_run}
use Rattle.fit_lanes.proofs.wanted.moved_style.Given as goal

abbrev pub invariant-loop-run : goal.invariant-loop-run
invariant-loop-run l = run_style (map (moved_run l.across l.along) l.runs) l.line l.place ≡ run_style (map (moved_run l.across l.along) (drop l.run-index l.runs)) l.line l.place
