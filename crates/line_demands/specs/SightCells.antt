-- Where the cells of a column stand.
use Rattle.std.specs.Prelude.{◌≡◌}
use Rattle.line_demands.specs.declared.gather.ColumnPlace.{ColumnPlace}
use Rattle.line_demands.specs.declared.sight.ColumnCells.{ColumnCells}
use Rattle.line_demands.specs.Sight.{first_place, step_away}
use Rattle.solid_model.specs.Frames.{frame_of}
use Rattle.solid_model.specs.WalledBoxes.{Sizes}

-- those of the column that stands there
pub record AreColumnCells (sizes : Sizes) (at : ColumnPlace) (cells : ColumnCells) : Type 0 where
  pub first : cells.first ≡ first_place sizes (frame_of at.view) at.right at.up
  pub step : cells.step ≡ step_away sizes (frame_of at.view)
