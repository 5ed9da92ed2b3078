-- No bit of the words so far is set.
use Rattle.std.proofs.Common.{◌*◌}
use Rattle.cell_rows.proofs.BitPlaces.{NoneFrom}
use Rattle.cell_rows.proofs.bit_places.next_from_word.Given as goal

abbrev pub invariant-loop-number : goal.invariant-loop-number
invariant-loop-number l = NoneFrom l.words (l.from * 64) (l.number * 64)
