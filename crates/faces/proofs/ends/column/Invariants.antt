-- The bits so far.
use Rattle.std.proofs.Common.{get_or}
use Rattle.lemmas.specs.Bits.{is_set}
use Rattle.lemmas.proofs.FilledWords.{IsFilledBy}
use Rattle.faces.proofs.ends.column.Given as goal

abbrev pub invariant-loop-place : goal.invariant-loop-place
invariant-loop-place l = IsFilledBy (λ k. is_set (get_or l.rows k 0) l.number) l.found l.place
