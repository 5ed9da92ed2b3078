-- The parts are those that the ringed box has.
use Rattle.std.proofs.Common.{◌≡◌, ◌*◌, ap, ◌∙◌, refl, arith}
use Rattle.std.proofs.lemmas.Nat.{mul-le}
use Rattle.solid_model.specs.declared.cell.Axis.{Axis}
use Rattle.solid_model.specs.declared.cell.Axis.TheVariants.{X, Y, Z}
use Rattle.solid_model.specs.PerAxis.{numbers_of}
use Rattle.solid_model.specs.WalledBoxes.{Sizes, box_count}
use Rattle.flood.specs.Ring.{ringed, ring_stride}
use Rattle.flood.proofs.ring.passages.Goals as goal

pub overflow_mul-result : goal.overflow_mul-result
overflow_mul-result g c =
    let l = mul-le _ _ 1024 1024 (c.ringed-sizes.ensures.few X) (c.ringed-sizes.ensures.few Y) in omega arith

pub returns : goal.returns
returns g c = record {
  count = c.count.ensures ∙ ap box_count ring;
  strides = λ t a. by a t;
  bars = c.in_ok-all_bars.ensures;
}
  where
    sizes : Sizes
    sizes = g.W.Walls.sizes c.args.walls.now

    ring : numbers_of c.ringed-sizes.result ≡ ringed sizes
    ring = c.ringed-sizes.ensures.sizes ∙ ap ringed c.sizes.ensures.sizes

    by : (a : Axis) → numbers_of (record { x = 1; y = c.ringed-sizes.result.x; z = c.ringed-sizes.result.x * c.ringed-sizes.result.y }) a ≡ ring_stride sizes a
    by X = refl
    by Y = λ t. ring t X
    by Z = λ t. ring t X * ring t Y
