use Rattle.std.proofs.Common.{◌<◌, ℕ, slice_index_or}
use Rattle.solid_model.specs.Known.{LiesWithin}
use Rattle.stage_tests.proofs.columns_met.lie_within.Given as goal

abbrev pub invariant-loop-at : goal.invariant-loop-at
invariant-loop-at l = record {
  so_far : (k : ℕ) → k < l.at → LiesWithin (slice_index_or l.full k 0) (slice_index_or l.may k 0);
}
