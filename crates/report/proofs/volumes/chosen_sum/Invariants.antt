-- The sum so far.
use Rattle.std.proofs.Common.{◌≡◌, ◌≤◌, ◌*◌, take}
use Rattle.report.specs.Volumes.{chosen_sum, most_block_volume}
use Rattle.report.proofs.volumes.chosen_sum.Given as goal

abbrev pub invariant-loop-block : goal.invariant-loop-block
invariant-loop-block l = (l.sum ≡ chosen_sum (take l.block l.volumes) l.choice) × (l.sum ≤ l.block * most_block_volume)
