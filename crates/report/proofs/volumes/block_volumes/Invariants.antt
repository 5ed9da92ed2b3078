-- The volumes so far.
use Rattle.solid_model.specs.Panels.{coordinates_of}
use Rattle.report.proofs.ChosenSums.{AreVolumesBelow}
use Rattle.report.proofs.volumes.block_volumes.Given as goal

abbrev pub invariant-loop-place : goal.invariant-loop-place
invariant-loop-place l = AreVolumesBelow (coordinates_of l.problem.grid) l.problem.blocks l.place l.problem.blocks.count l.volumes.items
