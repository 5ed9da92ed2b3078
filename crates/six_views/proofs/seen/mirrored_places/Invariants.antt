-- The last places so far are there, mirrored.
use Rattle.std.proofs.Common.{◌≡◌, ◌-◌, drop, length}
use Rattle.six_views.specs.Turned.{mirrored_places}
use Rattle.six_views.proofs.seen.mirrored_places.Given as goal

abbrev pub invariant-loop-done : goal.invariant-loop-done
invariant-loop-done l = l.places.items ≡ mirrored_places (drop (length l.coordinates - l.done) l.coordinates)
