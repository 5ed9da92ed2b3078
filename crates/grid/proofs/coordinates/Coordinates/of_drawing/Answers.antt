use Rattle.std.proofs.lemmas.Result.{err_from_is_err_and}
use Rattle.solid_model.specs.declared.cell.Axis.TheVariants.{X, Y, Z}
use Rattle.solid_model.specs.Runs.{style_in}
use Rattle.grid.proofs.Causes.{cause_handed_on}
use Rattle.grid.proofs.GridParts.{few-fine_enough}
use Rattle.grid.proofs.coordinates.Coordinates.of_drawing.Goals as goal

pub returns-in_err-ys-clause-fault : goal.returns-in_err-ys-clause-fault
returns-in_err-ys-clause-fault c = λ fault e.
    let drawing = style_in c.args.drawing.now in
    let p = err_from_is_err_and c.from_residual-in_err-ys.result c.from_residual-in_err-ys.ensures.1 in
    let own = c.in_err-ys.ensures.fault fault (cause_handed_on _ _ p _ e) in
    (Y, own.0, own.1, (few-fine_enough drawing X c.in_ok-xs.xs.items c.in_ok-xs.ensures.coordinates, own.2))

pub returns-in_err-zs-clause-fault : goal.returns-in_err-zs-clause-fault
returns-in_err-zs-clause-fault c = λ fault e.
    let drawing = style_in c.args.drawing.now in
    let p = err_from_is_err_and c.from_residual-in_err-zs.result c.from_residual-in_err-zs.ensures.1 in
    let own = c.in_err-zs.ensures.fault fault (cause_handed_on _ _ p _ e) in (
      Z,
      own.0,
      own.1,
      (
        few-fine_enough drawing X c.in_ok-xs.xs.items c.in_ok-xs.ensures.coordinates,
        few-fine_enough drawing Y c.in_ok-ys.ys.items c.in_ok-ys.ensures.coordinates,
        own.2,
      ),
    )
