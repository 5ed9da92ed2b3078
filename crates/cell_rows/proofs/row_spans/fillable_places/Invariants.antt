-- The places so far.
use Rattle.std.proofs.Common.{map}
use Rattle.cell_rows.proofs.FillablePlaces.{AreFillableSoFar}
use Rattle.cell_rows.proofs.row_spans.fillable_places.Given as goal

abbrev pub invariant-loop-place : goal.invariant-loop-place
invariant-loop-place l = AreFillableSoFar (map (λ r. r.items) l.rows) l.places.items l.place
