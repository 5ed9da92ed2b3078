use Rattle.std.proofs.Common.{ℕ, List, get_or, ap₂}
use Rattle.solid_model.specs.declared.decision.Decision.{Decision}
use Rattle.completeness_logs.specs.SplitMarks.{no_decision}
use Rattle.completeness_logs.proofs.trail.decided_block.Goals as goal

pub returns : goal.returns
returns c = ap₂ (λ (xs : List Decision) (n : ℕ). (get_or xs n no_decision).block) c.decisions.ensures c.from.ensures
