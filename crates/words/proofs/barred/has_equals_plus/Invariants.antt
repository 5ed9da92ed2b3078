use Rattle.std.proofs.Common.{◌≡◌, drop}
use Rattle.words.specs.Barred.{has_equals_plus}
use Rattle.words.proofs.barred.has_equals_plus.Given as goal

abbrev pub invariant-loop-place : goal.invariant-loop-place
invariant-loop-place l = has_equals_plus (drop l.place l.text) ≡ has_equals_plus l.text
