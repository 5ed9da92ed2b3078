-- The word filled so far.
use Rattle.std.proofs.Common.{false, get_or, ◌+◌}
use Rattle.lemmas.proofs.FilledWords.{IsFilledBy}
use Rattle.solid_model.proofs.prefix.word_of.Given as goal

abbrev pub invariant-loop-bit : goal.invariant-loop-bit
invariant-loop-bit l = IsFilledBy (λ k. get_or l.values (l.from + k) false) l.word l.bit
