-- So many first ones are the same.
use Rattle.std.proofs.Common.{◌≡◌, take}
use Rattle.search_end.proofs.left.begins_with.Given as goal

abbrev pub invariant-loop-at : goal.invariant-loop-at
invariant-loop-at l = take l.at l.choices ≡ take l.at l.first
