-- The planes of the rows so far.
use Rattle.cell_rows.specs.Planes.{EndAlikeBeside}
use Rattle.cell_rows.proofs.changed_planes.planes_between.Given as goal

abbrev pub invariant-loop-place : goal.invariant-loop-place
invariant-loop-place l = EndAlikeBeside l.planes l.rows l.others l.place
