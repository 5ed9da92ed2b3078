use Rattle.std.proofs.Common.{◌≡◌, ◌<◌, ℕ, None}
use Rattle.solid_model.specs.Decisions.{decided_by}
use Rattle.proof_log.proofs.walk.least_undecided.Given as goal

abbrev pub invariant-loop-block : goal.invariant-loop-block
invariant-loop-block l = (k : ℕ) → k < l.block → decided_by l.partial.decisions k ≡ None → ⊥
