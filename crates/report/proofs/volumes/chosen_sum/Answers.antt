-- One volume more.
use Rattle.std.proofs.Common.{◌≡◌, ◌≤◌, ◌+◌, ◌*◌, if◌then◌else◌, suc, take, slice_index_or, ap, sym, ◌∙◌, arith}
use Rattle.report.specs.Volumes.{chosen_sum, most_block_volume}
use Rattle.report.proofs.ChosenSums.{taken, sum_more}
use Rattle.report.proofs.volumes.chosen_sum.Goals as goal
use Rattle.report.proofs.volumes.chosen_sum.Goals.{then-is_full, else-is_full}

pub loop-block-preserved : goal.loop-block-preserved
loop-block-preserved c = elim c.if-is_full.branch as (λ _. (c.if-is_full.sum ≡ chosen_sum (take (c.loop-block.block + 1) c.args.volumes.now) c.args.choice.now)
    × (c.if-is_full.sum ≤ (c.loop-block.block + 1) * most_block_volume)) [
      | then-is_full w ↦ (
          let more = sum_more c.args.volumes.now c.args.choice.now c.loop-block.block c.loop-block-test.true in
          let next : suc c.loop-block.block ≡ c.loop-block.block + 1 = omega arith in
          let full : taken c.args.choice.now c.loop-block.block (slice_index_or c.args.volumes.now c.loop-block.block 0)
          ≡ slice_index_or c.args.volumes.now c.loop-block.block 0 =
          ap (λ b. if b then slice_index_or c.args.volumes.now c.loop-block.block 0 else 0) (sym c.is_full.ensures ∙ w.if-is_full.true) in
          let so_far = c.loop-block.invariant in
          let small = c.requires.small c.loop-block.block in (
            omega (arith, w.sum-is, so_far.0, full, more) ∙ ap (λ k. chosen_sum (take k c.args.volumes.now) c.args.choice.now) next,
            omega (arith, w.sum-is, so_far.1, small),
          ))
      | else-is_full w ↦ (
          let more = sum_more c.args.volumes.now c.args.choice.now c.loop-block.block c.loop-block-test.true in
          let next : suc c.loop-block.block ≡ c.loop-block.block + 1 = omega arith in
          let none : taken c.args.choice.now c.loop-block.block (slice_index_or c.args.volumes.now c.loop-block.block 0) ≡ 0 =
          ap (λ b. if b then slice_index_or c.args.volumes.now c.loop-block.block 0 else 0) (sym c.is_full.ensures ∙ w.if-is_full.false) in
          let so_far = c.loop-block.invariant in (
            omega (arith, w.sum-is, so_far.0, none, more) ∙ ap (λ k. chosen_sum (take k c.args.volumes.now) c.args.choice.now) next,
            omega (arith, w.sum-is, so_far.1),
          ))
    ]
