-- Both are the unit cells of the chosen grid cells, one after another.
use Rattle.solid_model.proofs.Volumes.{volume_counts}
use Rattle.solid_model.proofs.laws.volumes.volumes_count_unit_cells.Goals as goal

pub returns : goal.returns
returns c = λ coordinates ascends chosen s stated union. volume_counts coordinates ascends chosen s union stated
