-- The volume so far.
use Rattle.solid_model.specs.Choices.{cells_of_choice}
use Rattle.solid_model.specs.Panels.{coordinates_of}
use Rattle.solid_model.proofs.SmallVolumes.{IsVolumeBelow}
use Rattle.solid_model.proofs.volume.chosen_volume.Given as goal

abbrev pub invariant-loop-place : goal.invariant-loop-place
invariant-loop-place l = IsVolumeBelow (coordinates_of l.grid) (cells_of_choice l.items l.choice) l.place l.volume
