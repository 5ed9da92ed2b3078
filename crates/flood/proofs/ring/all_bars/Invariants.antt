-- The bars so far.
use Rattle.std.proofs.Common.{◌≡◌, ◌<◌, ◌≤◌, ◌+◌, IsTrue, vec_capacity}
use Rattle.solid_model.specs.PerAxis.{numbers_of, cell_of}
use Rattle.solid_model.specs.WalledBoxes.{is_within, box_place, box_count}
use Rattle.lemmas.proofs.Pushed.{HoldsSoFar}
use Rattle.flood.proofs.RingPassages.{AreBarsAt}
use Rattle.flood.proofs.ring.all_bars.Given as goal

abbrev pub invariant-loop-place : goal.invariant-loop-place
invariant-loop-place g l = record {
  told : HoldsSoFar (AreBarsAt (g.W.Walls.sizes l.walls) (g.W.Walls.stands l.walls)) l.bars.items l.place;
  before : 0 < l.place → IsTrue (is_within (numbers_of l.all) (cell_of l.cell)) × (l.place ≡ box_place (numbers_of l.all) (cell_of l.cell) + 1);
  room : box_count (numbers_of l.all) ≤ vec_capacity l.bars;
}
