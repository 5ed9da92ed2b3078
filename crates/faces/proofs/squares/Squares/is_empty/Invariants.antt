-- The rows so far are 0.
use Rattle.std.proofs.Common.{◌≡◌, ◌<◌, ℕ, get_or}
use Rattle.faces.proofs.squares.Squares.is_empty.Given as goal

abbrev pub invariant-loop-row : goal.invariant-loop-row
invariant-loop-row l = (v : ℕ) → v < l.row-index → get_or l.self.rows v 0 ≡ 0
