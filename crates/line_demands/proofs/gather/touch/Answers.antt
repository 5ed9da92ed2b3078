-- One block more.
use Rattle.std.proofs.Common.{◌<◌, length, get_or, refl, rules}
use Rattle.std.proofs.lemmas.List.{get_or_default}
use Rattle.line_demands.proofs.TouchedLines.{one_touched}
use Rattle.line_demands.proofs.gather.touch.Goals as goal

pub loop-block-preserved : goal.loop-block-preserved
loop-block-preserved c =
    let x = get_or c.args.on.now c.loop-block.block-index 0 in
    let there : x < length c.loop-block.touched = search rules in
    one_touched c.args.line c.args.on.now c.args.touched.now c.loop-block.block-index x 0 c.loop-block.touched (get_or c.loop-block.touched x c.index-touched-block.result) c.add_once.new.self
    c.loop-block.invariant c.loop-block-test.true refl there
    (λ ls. get_or_default c.loop-block.touched x ls c.index-touched-block.result there)
    c.in_ok-add_once.ensures.once c.in_ok-add_once.ensures.last
