-- The bars before one cell more; and all of them.
use Rattle.std.proofs.Common.{◌≡◌, IsTrue, ap, subst, ◌∙◌, arith}
use Rattle.solid_model.specs.declared.cell.Cell.{Cell}
use Rattle.solid_model.specs.PerAxis.{numbers_of, cell_of}
use Rattle.solid_model.specs.WalledBoxes.{Sizes, is_within, box_place, box_count}
use Rattle.lemmas.proofs.Pushed.{holds_more}
use Rattle.flood.specs.Ring.{ringed}
use Rattle.flood.proofs.RingPassages.{AreBarsAt, bars_at, all_bars_told}
use Rattle.flood.proofs.ring.all_bars.Goals as goal

pub bars_before-requires-clause-within : goal.bars_before-requires-clause-within
bars_before-requires-clause-within g c = subst (λ s. IsTrue (is_within s (cell_of c.next_cell-cell.result)))
    (c.ringed-all.ensures.sizes ∙ ap ringed c.sizes-sizes.ensures.sizes) c.next_cell-cell.ensures.within

pub loop-place-preserved : goal.loop-place-preserved
loop-place-preserved g c = record {
  told = holds_more (AreBarsAt sizes (g.W.Walls.stands c.args.walls.now)) c.loop-place.bars.items _ _ c.bars_before.result c.loop-place.invariant.told
      (bars_at sizes (g.W.Walls.stands c.args.walls.now) cell _ _ (subst (λ s. IsTrue (is_within s cell)) ring c.next_cell-cell.ensures.within)
      (c.next_cell-cell.ensures.place ∙ ap (λ (s : Sizes). box_place s cell) ring) c.bars_before.ensures)
      c.push_reserved.ensures.items;
  before = λ _. (c.next_cell-cell.ensures.within, omega (arith, c.next_cell-cell.ensures.place));
  room = omega (arith, c.loop-place.invariant.room, c.push_reserved.ensures.capacity);
}
  where
    sizes : Sizes
    sizes = g.W.Walls.sizes c.args.walls.now

    cell : Cell
    cell = cell_of c.next_cell-cell.result

    ring : numbers_of c.ringed-all.result ≡ ringed sizes
    ring = c.ringed-all.ensures.sizes ∙ ap ringed c.sizes-sizes.ensures.sizes

pub returns : goal.returns
returns g c = all_bars_told (g.W.Walls.sizes c.args.walls.now) (g.W.Walls.stands c.args.walls.now) c.loop-place.bars.items _ c.loop-place.invariant.told
    (omega arith ∙ c.count-place-end.ensures ∙ ap box_count (c.ringed-all.ensures.sizes ∙ ap ringed c.sizes-sizes.ensures.sizes))
