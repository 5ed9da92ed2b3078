-- The answers so far.
use Rattle.std.proofs.Common.{◌≡◌, ◌<◌, ◌+◌, IsTrue}
use Rattle.solid_model.specs.PerAxis.{numbers_of, cell_of}
use Rattle.solid_model.specs.WalledBoxes.{is_within, box_place}
use Rattle.solid_model.proofs.MarkedCells.{IsAnswerAt}
use Rattle.lemmas.proofs.Pushed.{HoldsSoFar}
use Rattle.solid_model.proofs.marks.Marks.of.Given as goal

abbrev pub invariant-loop-place : goal.invariant-loop-place
invariant-loop-place g l = HoldsSoFar (IsAnswerAt (numbers_of l.sizes) (g.T.CellTest.holds l.test)) l.values.items l.place
    × (0 < l.place → IsTrue (is_within (numbers_of l.sizes) (cell_of l.cell)) × (l.place ≡ box_place (numbers_of l.sizes) (cell_of l.cell) + 1))
