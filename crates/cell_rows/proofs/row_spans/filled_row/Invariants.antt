-- What is filled of the spans so far.
use Rattle.std.proofs.Common.{◌≡◌, ℕ, take}
use Rattle.lemmas.specs.Bits.{is_set}
use Rattle.cell_rows.specs.Spans.{is_filled}
use Rattle.cell_rows.proofs.row_spans.filled_row.Given as goal

abbrev pub invariant-loop-span : goal.invariant-loop-span
invariant-loop-span l = (k : ℕ) → is_set l.row k ≡ is_filled l.choice (take l.span-index l.spans) k
