-- One cell more; and all of them.
use Rattle.std.proofs.Common.{◌≡◌, ◌∙◌, arith}
use Rattle.lemmas.proofs.Pushed.{holds_more}
use Rattle.solid_model.specs.Panels.{coordinates_of}
use Rattle.solid_model.specs.PerAxis.{numbers_of}
use Rattle.solid_model.specs.WalledBoxes.{box_count}
use Rattle.section_laws.specs.Shaded.{IsLeftCell}
use Rattle.section_laws.proofs.ChosenPlaces.{TellsAt, told_at, all_told, few_cell}
use Rattle.section_laws.proofs.cut_cells.kept_cells.Goals as goal

pub is_kept-requires-clause-sizes : goal.is_kept-requires-clause-sizes
is_kept-requires-clause-sizes c = λ a. let l = c.sizes-sizes.ensures.few a in omega arith

pub is_kept-requires-clause-cell : goal.is_kept-requires-clause-cell
is_kept-requires-clause-cell c = few_cell (numbers_of c.sizes-sizes.result) c.cell.result c.sizes-sizes.ensures.few c.cell.ensures.within

pub loop-place-preserved : goal.loop-place-preserved
loop-place-preserved c =
    let coordinates = coordinates_of c.args.grid.now in
    holds_more (TellsAt (λ sizes. IsLeftCell c.args.area c.args.away sizes c.args.gap c.args.cells.now) coordinates) c.loop-place.kept.items _ _ c.is_kept.result c.loop-place.invariant
    (told_at (λ sizes. IsLeftCell c.args.area c.args.away sizes c.args.gap c.args.cells.now) coordinates (numbers_of c.sizes-sizes.result) c.sizes-sizes.ensures.sizes
    c.cell.result c.loop-place.place c.is_kept.result c.cell.ensures.within c.cell.ensures.place c.is_kept.ensures) c.in_ok-push.ensures.items

pub returns : goal.returns
returns c =
    let sizes = numbers_of c.sizes-sizes.result in
    let all : c.loop-place.place ≡ box_count sizes = omega arith ∙ c.count-place-end.ensures in
    all_told (λ sizes. IsLeftCell c.args.area c.args.away sizes c.args.gap c.args.cells.now) (coordinates_of c.args.grid.now) sizes c.sizes-sizes.ensures.sizes c.loop-place.kept.items c.loop-place.place all c.loop-place.invariant
