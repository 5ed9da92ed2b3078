use Rattle.std.proofs.Common.{◌≡◌, take, false}
use Rattle.std.specs.List.{list_any}
use Rattle.lemmas.specs.Truth.{same_values}
use Rattle.search_end.proofs.left.is_among.Given as goal

abbrev pub invariant-loop-other : goal.invariant-loop-other
invariant-loop-other l = list_any (same_values l.choice) (take l.other-index l.choices) ≡ false
