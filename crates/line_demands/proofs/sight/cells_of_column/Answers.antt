-- The numbers are put in one after another.
use Rattle.std.proofs.Common.{refl, ap, ◌∙◌, arith}
use Rattle.solid_model.specs.Limits.{most_grid_coordinates}
use Rattle.solid_model.specs.PerAxis.{numbers_of, numbered}
use Rattle.solid_model.specs.GridPlaces.{place_in}
use Rattle.solid_model.proofs.GridPlaces.{few_more, few_first}
use Rattle.line_demands.proofs.sight.cells_of_column.Goals as goal

pub place_of_cell-requires-clause-cell : goal.place_of_cell-requires-clause-cell
place_of_cell-requires-clause-cell c =
    few_more most_grid_coordinates c.args.frame.right.axis _ _ _ c.numbered-first.ensures c.requires.right
    (few_more most_grid_coordinates c.args.frame.up.axis _ _ _ c.numbered.ensures c.requires.up (few_first most_grid_coordinates))

pub place_of_cell-requires-2-clause-cell : goal.place_of_cell-requires-2-clause-cell
place_of_cell-requires-2-clause-cell c =
    few_more most_grid_coordinates c.args.frame.away.axis _ _ _ c.numbered-next.ensures (omega arith) (few_first most_grid_coordinates)

pub returns-clause-first : goal.returns-clause-first
returns-clause-first c = c.place_of_cell.ensures.same ∙ ap (place_in (numbers_of c.args.sizes))
    (c.numbered-first.ensures ∙ ap (numbered c.args.frame.right.axis c.args.right) (c.numbered.ensures ∙ ap (numbered c.args.frame.up.axis c.args.up) refl))

pub returns-clause-step : goal.returns-clause-step
returns-clause-step c = c.place_of_cell-2.ensures.same ∙ ap (place_in (numbers_of c.args.sizes)) (c.numbered-next.ensures ∙ ap (numbered c.args.frame.away.axis 1) refl)
