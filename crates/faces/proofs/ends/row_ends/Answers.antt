-- The points are told.
use Rattle.faces.proofs.PointEnds.{row_ends_told}
use Rattle.faces.proofs.ends.row_ends.Goals as goal

pub returns : goal.returns
returns c = row_ends_told c.args.above c.args.below
