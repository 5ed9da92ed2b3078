-- The rows so far.
use Rattle.std.proofs.Common.{◌≡◌, ◌<◌, ℕ, false, get_or}
use Rattle.lemmas.specs.Bits.{is_set}
use Rattle.faces.proofs.ends.all_bits.Given as goal

abbrev pub invariant-loop-row : goal.invariant-loop-row
invariant-loop-row l = (v k : ℕ) → v < l.row-index → is_set l.all k ≡ false → is_set (get_or l.rows v 0) k ≡ false
