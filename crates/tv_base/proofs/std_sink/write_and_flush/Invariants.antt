use Rattle.std.proofs.Common.{◌≡◌, ℕ, ◌≤◌, length, take, drop}
use Rattle.std.specs.Io.KnownBytes.{Appends}
use Rattle.tv_base.proofs.std_sink.write_and_flush.Given as goal

-- a prefix of the piece was appended, and the rest is left
abbrev pub invariant-loop-rest : goal.invariant-loop-rest
invariant-loop-rest g l = (n : ℕ) × (n ≤ length l.piece) × (l.rest ≡ drop n l.piece) × Appends (g.W.Write.contents l.initial.writer) (g.W.Write.contents l.writer) (take n l.piece)

abbrev pub decreases-loop-rest : goal.decreases-loop-rest
decreases-loop-rest g l = length l.rest
