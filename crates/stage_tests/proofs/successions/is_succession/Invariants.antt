-- The nodes so far.
use Rattle.std.proofs.Common.{ℕ, ◌<◌}
use Rattle.stage_tests.specs.Tables.{IsTold}
use Rattle.stage_tests.proofs.successions.is_succession.Given as goal

abbrev pub invariant-loop-node : goal.invariant-loop-node
invariant-loop-node l = (a : ℕ) → a < l.node → IsTold l.followers l.leaders a
