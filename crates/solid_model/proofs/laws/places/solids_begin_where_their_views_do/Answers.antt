use Rattle.std.proofs.Common.{true, false}
use Rattle.solid_model.proofs.FirstCells.{no_cell_before, cell_at_beginning}
use Rattle.solid_model.proofs.laws.places.solids_begin_where_their_views_do.Goals as goal

pub returns-clause-none_before : goal.returns-clause-none_before
returns-clause-none_before c f is drawing s v draws right up stands cell full =
    (no_cell_before f is drawing s v draws right up stands true cell full, no_cell_before f is drawing s v draws right up stands false cell full)

pub returns-clause-at_left : goal.returns-clause-at_left
returns-clause-at_left c f is drawing s v draws right up begins = cell_at_beginning f is drawing s v draws right up begins true

pub returns-clause-at_bottom : goal.returns-clause-at_bottom
returns-clause-at_bottom c f is drawing s v draws right up begins = cell_at_beginning f is drawing s v draws right up begins false
