-- Two ascending lists with the same members are one.
use Rattle.solid_model.proofs.InGrid.{one_coordinates}
use Rattle.solid_model.proofs.laws.grid.one_list_of_grid_coordinates.Goals as goal

pub returns : goal.returns
returns c = one_coordinates
