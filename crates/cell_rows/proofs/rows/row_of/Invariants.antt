-- The bits so far.
use Rattle.cell_rows.specs.Rows.{is_marked_at}
use Rattle.lemmas.proofs.FilledWords.{IsFilledBy}
use Rattle.cell_rows.proofs.rows.row_of.Given as goal

abbrev pub invariant-loop-number : goal.invariant-loop-number
invariant-loop-number l = IsFilledBy (is_marked_at l.marks l.fn.axis l.fn.cell) l.row l.number
