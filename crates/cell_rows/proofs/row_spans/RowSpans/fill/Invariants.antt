-- The rows at the places so far are filled, and the others are empty.
use Rattle.std.proofs.Common.{take}
use Rattle.cell_rows.proofs.FillablePlaces.{AreFilledAt}
use Rattle.cell_rows.proofs.row_spans.RowSpans.fill.Given as goal

abbrev pub invariant-loop-place : goal.invariant-loop-place
invariant-loop-place l = AreFilledAt l.choice l.self (take l.place-index l.place-items) l.rows
