-- A depth more, which is kept or isn't.
use Rattle.std.proofs.Common.{ℕ, ◌<◌, ap, sym, ◌∙◌, arith}
use Rattle.lemmas.specs.Bits.{is_set}
use Rattle.fit_lanes.specs.Cuts.{is_kept}
use Rattle.fit_lanes.proofs.SightRows.{one_full, one_empty}
use Rattle.fit_lanes.proofs.cuts.kept_bits.Goals as goal
use Rattle.fit_lanes.proofs.cuts.kept_bits.Goals.{then-is_kept, else-is_kept}

pub loop-depth-preserved : goal.loop-depth-preserved
loop-depth-preserved c =
    let full = λ (k : ℕ). is_kept c.args.area c.args.first k in
    elim c.if-is_kept.branch [
      | then-is_kept w ↦ (let within : c.loop-depth.depth < 64 = omega (arith, c.requires) in
          λ k. ap (λ n. is_set n k) w.bits-is ∙ one_full full c.loop-depth.depth _ c.loop-depth.invariant within (sym c.is_kept.ensures ∙ w.if-is_kept.true) k)
      | else-is_kept w ↦ (λ k. ap (λ n. is_set n k) w.bits-is ∙ one_empty full c.loop-depth.depth _ c.loop-depth.invariant (sym c.is_kept.ensures ∙ w.if-is_kept.false) k)
    ]
