use Rattle.solid_model.proofs.InGrid.{slices_agree, agree_in_grid_cell, lies_in_grid}
use Rattle.solid_model.proofs.laws.grid.matching_solids_lie_in_the_grid.Goals as goal

pub returns-clause-slices : goal.returns-clause-slices
returns-clause-slices c = λ drawing sees s matches. slices_agree drawing s matches sees

pub returns-clause-union : goal.returns-clause-union
returns-clause-union c = agree_in_grid_cell

pub returns-clause-inside : goal.returns-clause-inside
returns-clause-inside c = lies_in_grid
