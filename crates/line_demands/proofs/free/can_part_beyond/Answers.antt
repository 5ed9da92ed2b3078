-- No cell at these depths is full for certain, and the columns can draw Dashed without them.
use Rattle.std.proofs.Common.{bit_or}
use Rattle.line_demands.proofs.FreeBoth.{emptied_agrees}
use Rattle.line_demands.proofs.LowestLeft.{clear_of_either, other_clear}
use Rattle.line_demands.proofs.free.can_part_beyond.Goals as goal

pub returns-then-after-before-eq0 : goal.returns-then-after-before-eq0
returns-then-after-before-eq0 c = λ yes.
    let a = c.args.after in
    let b = c.args.before in
    let clear = other_clear (bit_or a.full b.full) c.args.cells c.if-after-before-eq0.true in
    let (column, beside, agrees, too, draws) = c.can_part_behind.ensures.0 yes in
    let one = emptied_agrees a.full a.may c.emptied.result.full c.emptied.result.may c.args.cells c.emptied.ensures.within c.emptied.ensures.full c.emptied.ensures.may
    (λ k set. (clear_of_either a.full b.full k (clear k set)).0) column agrees in
    let other = emptied_agrees b.full b.may c.emptied-then-after-before-eq0.result.full c.emptied-then-after-before-eq0.result.may c.args.cells c.emptied-then-after-before-eq0.ensures.within c.emptied-then-after-before-eq0.ensures.full c.emptied-then-after-before-eq0.ensures.may
    (λ k set. (clear_of_either a.full b.full k (clear k set)).1) beside too in
    (column, beside, one.0, other.0, (λ k set. (one.1 k set, other.1 k set)), draws)
