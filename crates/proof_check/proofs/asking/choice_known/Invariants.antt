use Rattle.std.proofs.Common.{◌≡◌, map}
use Rattle.std.specs.List.{range_with_len}
use Rattle.solid_model.specs.Decisions.{decided_by}
use Rattle.completeness_logs.specs.Logs.{known_full}
use Rattle.proof_check.proofs.asking.choice_known.Given as goal

abbrev pub invariant-loop-block : goal.invariant-loop-block
invariant-loop-block l = l.values.items ≡ map (λ block. known_full (decided_by l.partial.decisions block)) (range_with_len 0 l.block)
