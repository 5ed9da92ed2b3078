-- The runs so far are the others, moved.
use Rattle.std.proofs.Common.{◌≡◌, take, map}
use Rattle.six_views.specs.MovedRuns.{moved_run}
use Rattle.six_views.proofs.moved.are_moved.Given as goal

abbrev pub invariant-loop-place : goal.invariant-loop-place
invariant-loop-place l = take l.place l.own ≡ map (moved_run l.across l.along) (take l.place l.shown)
