-- The rows tell all marks.
use Rattle.cell_rows.proofs.MarksByRows.{all_marks}
use Rattle.cell_rows.proofs.rows.CellRows.of.Goals as goal

pub invariant_of-result : goal.invariant_of-result
invariant_of-result c = (all_marks c.args.marks.now c.sizes-sizes.result c.in_ok-x.x.items c.in_ok-y.y.items c.in_ok-z.z.items c.sizes-sizes.ensures.sizes
    c.known.ensures.listed
    (record { few = c.requires; along_x = c.in_ok-x.ensures; along_y = c.in_ok-y.ensures; along_z = c.in_ok-z.ensures })).1

pub returns : goal.returns
returns c = (all_marks c.args.marks.now c.sizes-sizes.result c.in_ok-x.x.items c.in_ok-y.y.items c.in_ok-z.z.items c.sizes-sizes.ensures.sizes
    c.known.ensures.listed
    (record { few = c.requires; along_x = c.in_ok-x.ensures; along_y = c.in_ok-y.ensures; along_z = c.in_ok-z.ensures })).0
