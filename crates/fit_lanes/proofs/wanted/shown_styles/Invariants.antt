-- The styles of the places so far.
use Rattle.std.proofs.Common.{◌≡◌, ◌/◌, ◌%◌, map, slice_index_or, pos}
use Rattle.solid_model.specs.Runs.{run_style}
use Rattle.six_views.specs.MovedRuns.{moved_run}
use Rattle.lemmas.proofs.Pushed.{HoldsSoFar}
use Rattle.fit_lanes.proofs.wanted.shown_styles.Given as goal

abbrev pub invariant-loop-place : goal.invariant-loop-place
invariant-loop-place l = HoldsSoFar (λ p style. style ≡ run_style (map (moved_run l.across l.along) l.shown) (slice_index_or l.lines (p / l.width) (pos 0)) (slice_index_or l.ends (p % l.width) (pos 0))) l.styles.items l.place
