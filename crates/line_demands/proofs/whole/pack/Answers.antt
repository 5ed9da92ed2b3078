-- One line more.
use Rattle.std.proofs.Common.{refl, arith}
use Rattle.line_demands.proofs.WholeBytes.{packed_more}
use Rattle.line_demands.proofs.whole.pack.Goals as goal

pub loop-place-preserved : goal.loop-place-preserved
loop-place-preserved c = record {
  so_far = packed_more c.args.columns.now c.args.sides.now c.args.numbers.now c.loop-place.after c.loop-place.before c.loop-place.place
      c.loop-place.invariant.so_far
      (omega (arith, c.loop-place-test.true, c.loop-place.auto.place-end, c.loop-place.auto.after, c.requires.after))
      (omega (arith, c.loop-place-test.true, c.loop-place.auto.place-end, c.loop-place.auto.before, c.requires.before))
      _ _ refl refl;
}
