-- Before each cell of the row stands the one before it.
use Rattle.std.proofs.Common.{refl, arith}
use Rattle.cell_rows.proofs.BoundaryPlanes.{planes_of}
use Rattle.cell_rows.proofs.changed_planes.planes_of_row.Goals as goal

pub returns : goal.returns
returns c = planes_of c.args.row _ refl (let fits = c.ranges.row in omega arith)
