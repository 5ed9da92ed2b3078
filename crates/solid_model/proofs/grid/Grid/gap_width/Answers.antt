-- The coordinates of a grid are near one another.
use Rattle.std.proofs.Common.{rules, ◌≡◌, arith}
use Rattle.solid_model.specs.Panels.{coordinates_of}
use Rattle.solid_model.specs.Volumes.{gap_width}
use Rattle.solid_model.proofs.SmallVolumes.{width_small}
use Rattle.solid_model.proofs.grid.Grid.gap_width.Goals as goal

pub returns-clause-small : goal.returns-clause-small
returns-clause-small c =
    let width : c.abs_diff.result ≡ gap_width (coordinates_of c.args.self.now c.args.axis) c.args.number = search rules in
    omega (arith, width, width_small c.args.self.now c.coordinates-coordinates.ensures.kept c.args.axis c.args.number)
