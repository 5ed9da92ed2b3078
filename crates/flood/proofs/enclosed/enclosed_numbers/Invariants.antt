-- The enclosed components so far.
use Rattle.std.proofs.Common.{◌≡◌, ◌<◌, ◌≤◌, ◌+◌, IsTrue, vec_capacity}
use Rattle.solid_model.specs.PerAxis.{numbers_of, cell_of}
use Rattle.solid_model.specs.WalledBoxes.{is_within, box_place, box_count}
use Rattle.lemmas.proofs.Pushed.{HoldsSoFar}
use Rattle.flood.specs.Graph.{component}
use Rattle.flood.proofs.PassageComponents.{IsEnclosedAt}
use Rattle.flood.proofs.enclosed.enclosed_numbers.Given as goal

abbrev pub invariant-loop-place : goal.invariant-loop-place
invariant-loop-place l = record {
  told : HoldsSoFar (IsEnclosedAt (numbers_of l.sizes) (component l.components)) l.enclosed.items l.place;
  before : 0 < l.place → IsTrue (is_within (numbers_of l.sizes) (cell_of l.cell)) × (l.place ≡ box_place (numbers_of l.sizes) (cell_of l.cell) + 1);
  capacity : box_count (numbers_of l.sizes) ≤ vec_capacity l.enclosed;
}
