-- The buffers have rows for the problem's cells.
use Rattle.std.proofs.Common.{◌≡◌}
use Rattle.surface_tests.proofs.texts.told_in_turn.Given as goal

abbrev pub invariant-loop-full : goal.invariant-loop-full
invariant-loop-full l = l.buffers.rows.sizes ≡ l.texts.problem.blocks.sizes
