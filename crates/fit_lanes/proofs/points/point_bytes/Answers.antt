-- The bytes of all points are listed one by one.
use Rattle.std.proofs.Common.{◌+◌, ◌*◌, ◌<◌, ◌∙◌, arith}
use Rattle.std.proofs.lemmas.Nat.{div-mul-add, mod-mul-add, mul-add-lt}
use Rattle.std.proofs.Math.Nat.{mul_comm}
use Rattle.fit_lanes.specs.Points.{point_byte}
use Rattle.fit_lanes.proofs.points.point_bytes.Goals as goal

pub returns : goal.returns
returns c = record {
  count = c.loop-place.invariant.count ∙ omega arith;
  each = λ i j l m.
      let w = c.args.width in let h = c.args.height in
      let less : i < w + 1 = omega arith in
      let within : j * (w + 1) + i < c.loop-place.place = omega (arith, mul-add-lt j (w + 1) i (h + 1) (omega arith) less, mul_comm (w + 1) (h + 1)) in
      c.loop-place.invariant.each (j * (w + 1) + i) 0 within
      ∙ (λ t. point_byte w h c.args.upright c.args.styles.now (mod-mul-add j (w + 1) i less t) (div-mul-add j (w + 1) i less t));
}
