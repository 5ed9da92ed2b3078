-- The cells so far.
use Rattle.std.proofs.Common.{◌≡◌, ◌<◌, ◌≤◌, ◌+◌, IsTrue, vec_capacity}
use Rattle.solid_model.specs.PerAxis.{numbers_of, cell_of}
use Rattle.solid_model.specs.WalledBoxes.{is_within, box_place, box_count}
use Rattle.solid_model.proofs.MarkedCells.{IsAnswerAt}
use Rattle.lemmas.proofs.Pushed.{HoldsSoFar}
use Rattle.flood.specs.RowWords.{is_in_rows}
use Rattle.flood.proofs.leading.marks_in_rows.Given as goal

abbrev pub invariant-loop-place : goal.invariant-loop-place
invariant-loop-place l = record {
  told : HoldsSoFar (IsAnswerAt (numbers_of l.sizes) (is_in_rows (numbers_of l.sizes) l.rows)) l.values.items l.place;
  before : 0 < l.place → IsTrue (is_within (numbers_of l.sizes) (cell_of l.cell)) × (l.place ≡ box_place (numbers_of l.sizes) (cell_of l.cell) + 1);
  room : box_count (numbers_of l.sizes) ≤ vec_capacity l.values;
}
