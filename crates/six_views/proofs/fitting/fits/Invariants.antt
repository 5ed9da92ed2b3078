-- Those so far are shown by each solid that the choice fills.
use Rattle.std.proofs.Common.{List, take}
use Rattle.solid_model.specs.declared.cell.Cell.{Cell}
use Rattle.solid_model.specs.Cells.{is_full}
use Rattle.solid_model.specs.Choices.{cells_of_choice}
use Rattle.solid_model.specs.Grid.{IsUnionOf}
use Rattle.solid_model.specs.Panels.{coordinates_of}
use Rattle.six_views.specs.Further.{FitsRuns}
use Rattle.six_views.proofs.fitting.fits.Given as goal

abbrev pub invariant-loop-view : goal.invariant-loop-view
invariant-loop-view l = (s : List Cell) → IsUnionOf (coordinates_of l.problem.grid) (cells_of_choice l.problem.blocks.numbers l.choice) (is_full s)
    → FitsRuns (take l.view-index l.further) s
