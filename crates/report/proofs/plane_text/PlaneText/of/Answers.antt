-- The squares are those of the marked cells, which lie on the grid.
use Rattle.report.proofs.plane_text.PlaneText.of.Goals as goal

pub faces_of_squares-requires-clause-grid : goal.faces_of_squares-requires-clause-grid
faces_of_squares-requires-clause-grid c = record {
  marks = c.args.cells.now;
  sized = λ a t. c.requires.sizes t a;
  are = c.in_ok-squares.ensures;
}
