-- One volume more, and there is room for it.
use Rattle.std.proofs.Common.{Bool, ℕ, ◌+◌, ◌<◌, ◌≤◌, List, IsTrue, sym, subst, ◌∙◌, arith}
use Rattle.solid_model.specs.Choices.{cells_of_choice}
use Rattle.solid_model.specs.Grid.{Coordinates}
use Rattle.solid_model.specs.Panels.{coordinates_of}
use Rattle.solid_model.specs.PerAxis.{numbers_of, cell_of}
use Rattle.solid_model.specs.WalledBoxes.{is_within, box_count}
use Rattle.solid_model.proofs.SmallVolumes.{IsVolumeBelow, count_small, volume_at_place, with_chosen, without_chosen}
use Rattle.solid_model.proofs.volume.chosen_volume.Goals as goal
use Rattle.solid_model.proofs.volume.chosen_volume.Goals.{then-is_filled, else-is_filled}

pub cell-requires : goal.cell-requires
cell-requires c =
    subst (λ s. c.loop-place.place < box_count s) (sym c.sizes-sizes.ensures.sizes)
    (omega (arith, c.loop-place-test.true, c.cell_count-place-end.ensures))

pub cell_volume-volume-requires : goal.cell_volume-volume-requires
cell_volume-volume-requires c =
    subst (λ s. IsTrue (is_within s (cell_of c.cell.result))) c.sizes-sizes.ensures.sizes c.cell.ensures.within

pub overflow_add-volume : goal.overflow_add-volume
overflow_add-volume c =
    let few = subst (λ s. box_count s ≤ 250047) c.sizes-sizes.ensures.sizes
    (count_small (numbers_of c.sizes-sizes.result) c.sizes-sizes.ensures.few) in
    omega (arith, few, c.loop-place-test.true, c.cell_count-place-end.ensures, c.loop-place.invariant.small, c.cell_volume-volume.ensures.small)

pub loop-place-preserved : goal.loop-place-preserved
loop-place-preserved c = elim c.if-is_filled.branch as (λ _. IsVolumeBelow coordinates chosen (place + 1) c.if-is_filled.volume) [
  | then-is_filled w ↦ (let sizes = c.sizes-sizes in let cell = w.cell in
      subst (IsVolumeBelow coordinates chosen (place + 1)) (sym w.volume-is)
      (with_chosen coordinates chosen place c.loop-place.volume c.loop-place.invariant w.cell_volume-volume.result
      (sym c.is_filled.ensures ∙ w.if-is_filled.true)
      (w.cell_volume-volume.ensures.volume
      ∙ volume_at_place coordinates (numbers_of sizes.result) cell.result place sizes.ensures.sizes cell.ensures.within cell.ensures.place)
      w.cell_volume-volume.ensures.small))
  | else-is_filled w ↦ subst (IsVolumeBelow coordinates chosen (place + 1)) (sym w.volume-is)
      (without_chosen coordinates chosen place c.loop-place.volume c.loop-place.invariant (sym c.is_filled.ensures ∙ w.if-is_filled.false))
]
  where
    coordinates : Coordinates
    coordinates = coordinates_of c.args.grid.now

    chosen : List Bool
    chosen = cells_of_choice c.args.items.now c.args.choice.now

    place : ℕ
    place = c.loop-place.place
