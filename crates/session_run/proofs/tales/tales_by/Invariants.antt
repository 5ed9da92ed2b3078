-- The tales so far are of the first scripts, and the players that are left have played the others.
use Rattle.std.proofs.Common.{length}
use Rattle.std.specs.Vec.Iter.{into_iter_items}
use Rattle.session_run.proofs.Told.{TellSoFar}
use Rattle.session_run.proofs.tales.tales_by.Given as goal

abbrev pub invariant-loop-player : goal.invariant-loop-player
invariant-loop-player g l = TellSoFar l.fn.players.items l.tales.items (into_iter_items l.left)

abbrev pub decreases-loop-player : goal.decreases-loop-player
decreases-loop-player g l = length (into_iter_items l.left)
