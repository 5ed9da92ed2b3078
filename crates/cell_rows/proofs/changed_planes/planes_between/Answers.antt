-- No row yet; one row more; and all of them.
use Rattle.std.proofs.Common.{◌≡◌, length, subst, arith}
use Rattle.cell_rows.specs.Planes.{EndAlikeBeside}
use Rattle.cell_rows.proofs.BoundaryPlanes.{alike_more}
use Rattle.cell_rows.proofs.changed_planes.planes_between.Goals as goal

pub loop-place-init : goal.loop-place-init
loop-place-init c forward k l none p early = absurd (omega arith)

pub loop-place-preserved : goal.loop-place-preserved
loop-place-preserved c = alike_more c.loop-place.planes c.with_row-planes.result c.args.rows.now c.args.others.now c.loop-place.place
    c.loop-place.invariant c.with_row-planes.ensures

pub returns : goal.returns
returns c =
    let all : c.loop-place.place ≡ length c.args.rows.now = omega (arith, c.loop-place-test.false) in
    subst (EndAlikeBeside c.loop-place.planes c.args.rows.now c.args.others.now) all c.loop-place.invariant
