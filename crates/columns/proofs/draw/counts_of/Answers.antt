-- A grid has few coordinates.
use Rattle.std.proofs.Common.{length, ap, arith}
use Rattle.solid_model.specs.declared.cell.Axis.TheVariants.{X, Y, Z}
use Rattle.columns.proofs.draw.counts_of.Goals as goal

pub returns-clause-few : goal.returns-clause-few
returns-clause-few c X = omega (arith, ap length c.coordinates.ensures.same, c.coordinates.ensures.kept.2.few X)
returns-clause-few c Y = omega (arith, ap length c.coordinates-2.ensures.same, c.coordinates.ensures.kept.2.few Y)
returns-clause-few c Z = omega (arith, ap length c.coordinates-3.ensures.same, c.coordinates.ensures.kept.2.few Z)
