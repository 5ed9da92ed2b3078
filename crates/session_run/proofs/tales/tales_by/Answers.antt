-- One more tale, and one player less.
use Rattle.std.proofs.Common.{arith}
use Rattle.std.specs.Vec.Iter.{into_iter_items}
use Rattle.session_run.proofs.Told.{tell_more, tell_all}
use Rattle.session_run.proofs.tales.tales_by.Goals as goal

pub loop-player-preserved : goal.loop-player-preserved
loop-player-preserved g c =
    tell_more c.args.players.items (into_iter_items c.loop-player.left) (into_iter_items c.next.new.self) c.loop-player.tales.items c.push.new.self.items
    c.in-Some.player c.in_ok-tale.tale c.loop-player.invariant c.in-Some.ensures.items c.in_ok-push.ensures.items c.in_ok-tale.ensures

pub returns : goal.returns
returns g c =
    let none = c.in_default.ensures.cases.0 in
    tell_all c.args.players.items (into_iter_items c.loop-player.left) c.loop-player.tales.items c.loop-player.invariant (omega (arith, none, c.loop-player.left.rest.ok))
