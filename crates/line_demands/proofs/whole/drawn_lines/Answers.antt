-- One line more, drawn or blank.
use Rattle.std.proofs.Common.{◌<◌, length}
use Rattle.line_demands.proofs.WholeBytes.{drawn_more, blank_more}
use Rattle.line_demands.proofs.whole.drawn_lines.Goals as goal
use Rattle.line_demands.proofs.whole.drawn_lines.Goals.{then-is_drawn+in_ok-push, else-is_drawn}

pub loop-number-preserved : goal.loop-number-preserved
loop-number-preserved c =
    let sides = c.args.sides.now in
    let number = c.loop-number.number in
    let numbers = c.loop-number.numbers.items in
    let low : number < length sides = c.loop-number-test.true in
    elim c.if-is_drawn.branch [
      | then-is_drawn+in_ok-push w ↦ rw (w.numbers-is, w.in_ok-push.ensures.items) (drawn_more sides number numbers c.loop-number.invariant low)
      | else-is_drawn w ↦ rw (w.numbers-is) (blank_more sides number numbers c.loop-number.invariant
          (c.is_drawn.ensures w.if-is_drawn.false))
    ]
