-- A full or an empty cell more.
use Rattle.std.proofs.Common.{ℕ, ◌<◌, ap, sym, ◌∙◌, arith}
use Rattle.solid_model.specs.GridPlaces.{number_on}
use Rattle.solid_model.specs.PerAxis.{numbers_of}
use Rattle.lemmas.specs.Bits.{is_set}
use Rattle.fit_lanes.proofs.SightRows.{one_full, one_empty}
use Rattle.fit_lanes.proofs.sights.seen_row.Goals as goal
use Rattle.fit_lanes.proofs.sights.seen_row.Goals.{then-has_bit, else-has_bit}

pub loop-depth-preserved : goal.loop-depth-preserved
loop-depth-preserved c =
    let full = λ (k : ℕ). is_set c.args.row (number_on (numbers_of c.args.sizes) c.args.away k) in
    let at = c.has_bit.ensures ∙ ap (λ n. is_set c.args.row n) c.number_on.ensures.same in
    elim c.if-has_bit.branch [
      | then-has_bit w ↦ (let within : c.loop-depth.depth < 64 = omega (arith, c.requires) in
          λ k. ap (λ n. is_set n k) w.seen-is ∙ one_full full c.loop-depth.depth _ c.loop-depth.invariant within (sym at ∙ w.if-has_bit.true) k)
      | else-has_bit w ↦ (λ k. ap (λ n. is_set n k) w.seen-is ∙ one_empty full c.loop-depth.depth _ c.loop-depth.invariant (sym at ∙ w.if-has_bit.false) k)
    ]
