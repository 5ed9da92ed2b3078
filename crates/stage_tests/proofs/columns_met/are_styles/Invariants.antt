use Rattle.std.proofs.Common.{◌<◌, ℕ, slice_index_or}
use Rattle.stage_tests.proofs.columns_met.are_styles.Given as goal

abbrev pub invariant-loop-at : goal.invariant-loop-at
invariant-loop-at l = record {
  so_far : (k : ℕ) → k < l.at → slice_index_or l.want k 0 < 3;
}
