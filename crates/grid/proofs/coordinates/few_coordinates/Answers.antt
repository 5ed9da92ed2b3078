use Rattle.std.proofs.Common.{arith}
use Rattle.solid_model.specs.Runs.{style_in}
use Rattle.grid.proofs.CoordinateBounds.{count_near}
use Rattle.grid.proofs.coordinates.few_coordinates.Goals as goal

pub overflow_cast-count : goal.overflow_cast-count
overflow_cast-count c =
    let own = c.in_ok-coordinates.ensures in
    let few = count_near (style_in c.args.drawing.now) own.kept c.args.axis c.in_ok-coordinates.coordinates.items own.exact in
    omega (arith, few)
