-- One cell more is counted; and all of them.
use Rattle.std.proofs.Common.{◌≡◌, ◌≤◌, ◌<◌, ◌+◌, rules, true, IsTrue, if◌then◌else◌, ap, sym, subst, ◌∙◌, arith}
use Rattle.solid_model.specs.Blocks.{BlockNumbers, block_at}
use Rattle.solid_model.specs.Choices.{is_chosen, cells_of_choice}
use Rattle.solid_model.specs.GridBox.{grid_sizes}
use Rattle.solid_model.specs.Panels.{GridParts, coordinates_of}
use Rattle.solid_model.specs.PerAxis.{numbers_of, cell_of}
use Rattle.solid_model.specs.WalledBoxes.{is_within, box_place, box_count}
use Rattle.solid_model.specs.Volumes.{grid_cell_volume, grid_cell_at, volume_below}
use Rattle.solid_model.proofs.SmallVolumes.{count_small, volume_at_place}
use Rattle.report.specs.Volumes.{chosen_sum}
use Rattle.report.proofs.ChosenSums.{volumes_none, block_there, volumes_more}
use Rattle.report.proofs.volumes.block_volumes.Goals as goal

pub loop-place-init : goal.loop-place-init
loop-place-init c = volumes_none _ _ c.count.result _ _ c.in_ok-volumes.ensures.none
    (c.count.ensures ∙ ap (λ (b : BlockNumbers). b.count) c.blocks-blocks.ensures)

pub cell-cell-requires : goal.cell-cell-requires
cell-cell-requires c =
    subst (λ s. c.loop-place.place < box_count s) (sym c.sizes-sizes.ensures.sizes)
    (omega (arith, c.loop-place-test.true, c.cell_count-place-end.ensures))

pub cell_volume-requires : goal.cell_volume-requires
cell_volume-requires c = subst (λ s. IsTrue (is_within s (cell_of c.cell-cell.result))) c.sizes-sizes.ensures.sizes c.cell-cell.ensures.within

pub add_volume-requires-clause-there : goal.add_volume-requires-clause-there
add_volume-requires-clause-there c =
    block_there c.args.problem.now.grid c.args.problem.now.blocks (cell_of c.cell-cell.result) _ c.grid-grid.ensures.kept
    (subst (λ s. is_within s (cell_of c.cell-cell.result) ≡ true) (c.sizes-sizes.ensures.sizes ∙ ap grid_sizes c.grid-grid.ensures.grid) c.cell-cell.ensures.within)
    c.loop-place.invariant.counted c.of.result
    (c.of.ensures ∙ ap (λ (b : BlockNumbers). block_at b (cell_of c.cell-cell.result)) c.blocks-blocks.ensures)

pub add_volume-requires-clause-small : goal.add_volume-requires-clause-small
add_volume-requires-clause-small c k =
    let few = subst (λ s. box_count s ≤ 250047) c.sizes-sizes.ensures.sizes
    (count_small (numbers_of c.sizes-sizes.result) c.sizes-sizes.ensures.few) in
    let small = c.loop-place.invariant.small k in
    omega (arith, few, small, c.loop-place-test.true, c.cell_count-place-end.ensures)

pub loop-place-preserved : goal.loop-place-preserved
loop-place-preserved c =
    let g = c.args.problem.now.grid in
    let b = c.args.problem.now.blocks in
    let n = cell_of c.cell-cell.result in
    let grid = c.grid-grid.ensures.grid in
    let sizes : numbers_of c.sizes-sizes.result ≡ numbers_of b.sizes =
    c.sizes-sizes.ensures.sizes ∙ ap grid_sizes grid ∙ (λ t a. sym (c.grid-grid.ensures.kept.sized a) t) in
    let own = c.of.ensures ∙ ap (λ (b : BlockNumbers). block_at b n) c.blocks-blocks.ensures in
    volumes_more (coordinates_of g) b c.loop-place.place b.count _ _ n c.cell_volume.result c.loop-place.invariant
    (subst (λ s. is_within s n ≡ true) sizes c.cell-cell.ensures.within)
    (sym (c.cell-cell.ensures.place ∙ ap (λ s. box_place s n) sizes))
    (c.cell_volume.ensures.volume
    ∙ volume_at_place (coordinates_of c.grid-grid.result.now) (numbers_of c.sizes-sizes.result) c.cell-cell.result c.loop-place.place
    c.sizes-sizes.ensures.sizes c.cell-cell.ensures.within c.cell-cell.ensures.place
    ∙ ap (λ (h : GridParts). grid_cell_volume (coordinates_of h) (grid_cell_at (coordinates_of h) c.loop-place.place)) grid)
    c.cell_volume.ensures.small c.add_volume.ensures.count c.add_volume.ensures.small
    (λ choice. c.add_volume.ensures.sums choice
    ∙ ap (λ o. chosen_sum c.loop-place.volumes.items choice + (if is_chosen choice o then c.cell_volume.result else 0)) own)

pub returns : goal.returns
returns c =
    let g = c.args.problem.now.grid in
    let b = c.args.problem.now.blocks in
    let few = subst (λ s. box_count s ≤ 250047) c.sizes-sizes.ensures.sizes
    (count_small (numbers_of c.sizes-sizes.result) c.sizes-sizes.ensures.few) in
    record {
      few = (let l = c.in_ok-volumes.ensures.few in let e = ap (λ (b : BlockNumbers). b.count) c.blocks-blocks.ensures in
          omega (arith, c.loop-place.invariant.counted, c.count.ensures, l, e));
      small = λ k. let small = c.loop-place.invariant.small k in
          omega (arith, few, small, c.loop-place-test.false, c.loop-place.auto.place-end, c.cell_count-place-end.ensures);
      sums = λ choice. (c.loop-place.invariant.sums choice).is ∙ ap (volume_below (coordinates_of g) (cells_of_choice b.numbers choice)) (search rules);
    }
