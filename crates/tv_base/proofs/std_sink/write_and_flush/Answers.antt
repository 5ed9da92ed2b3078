use Rattle.std.proofs.Common.{◌+◌, length, drop, ap, ◌∙◌, arith, length-drop}
use Rattle.std.proofs.lemmas.List.{take_rest, drop-drop}
use Rattle.tv_base.proofs.Told.{appends_more}
use Rattle.tv_base.proofs.std_sink.write_and_flush.Goals as goal

pub loop-rest-preserved : goal.loop-rest-preserved
loop-rest-preserved g c =
    let taken = c.loop-rest.invariant.0 in
    let count = c.in-Ok.count in
    let rest_is = c.loop-rest.invariant.2 in
    let next = rw rest_is at c.in-Ok.ensures.bytes in (
      taken + count,
      omega (arith, c.in-Ok.ensures.bound, ap length rest_is, length-drop taken c.args.piece.now),
      take_rest c.loop-rest.rest.now count ∙ ap (drop count) rest_is ∙ drop-drop count taken c.args.piece.now,
      appends_more _ (g.W.Write.contents c.loop-rest.writer) _ taken count c.args.piece.now c.loop-rest.invariant.3 next,
    )
