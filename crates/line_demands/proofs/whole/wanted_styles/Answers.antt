-- One line's byte more.
use Rattle.lemmas.proofs.Pushed.{holds_more}
use Rattle.line_demands.proofs.whole.wanted_styles.Goals as goal

pub loop-number-preserved : goal.loop-number-preserved
loop-number-preserved c = record {
  so_far = holds_more _ c.loop-number.bytes.items _ c.loop-number.number-index _ c.loop-number.invariant.so_far
      c.style_byte.ensures c.in_ok-push.ensures.items;
}
