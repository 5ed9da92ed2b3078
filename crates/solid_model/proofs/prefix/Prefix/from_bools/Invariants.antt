-- The words so far.
use Rattle.lemmas.proofs.KeptBits.{IsWordAt}
use Rattle.lemmas.proofs.Pushed.{HoldsSoFar}
use Rattle.solid_model.proofs.prefix.Prefix.from_bools.Given as goal

abbrev pub invariant-loop-number : goal.invariant-loop-number
invariant-loop-number l = HoldsSoFar (IsWordAt l.values) l.words.items l.number
