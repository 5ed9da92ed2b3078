-- So many are the same.
use Rattle.std.proofs.Common.{◌≡◌, take}
use Rattle.solid_model.proofs.prefix.same_words.Given as goal

abbrev pub invariant-loop-at : goal.invariant-loop-at
invariant-loop-at l = take l.at l.left ≡ take l.at l.right
