-- Each number is one of the grid's.
use Rattle.std.proofs.Common.{w64, rules}
use Rattle.std.proofs.lemmas.Int.{to_z-of_z}
use Rattle.solid_model.specs.declared.cell.Axis.TheVariants.{X, Y, Z}
use Rattle.faces.proofs.grid_points.grid_point.Goals as goal

pub coordinate-requires-clause-low : goal.coordinate-requires-clause-low
coordinate-requires-clause-low c = rw (to_z-of_z w64 c.args.numbers.x (search rules)) (c.requires X).0

pub coordinate-requires-clause-high : goal.coordinate-requires-clause-high
coordinate-requires-clause-high c = rw (to_z-of_z w64 c.args.numbers.x (search rules), c.coordinates.ensures.same) (c.requires X).1

pub coordinate-requires-2-clause-low : goal.coordinate-requires-2-clause-low
coordinate-requires-2-clause-low c = rw (to_z-of_z w64 c.args.numbers.y (search rules)) (c.requires Y).0

pub coordinate-requires-2-clause-high : goal.coordinate-requires-2-clause-high
coordinate-requires-2-clause-high c = rw (to_z-of_z w64 c.args.numbers.y (search rules), c.coordinates-2.ensures.same) (c.requires Y).1

pub coordinate-requires-3-clause-low : goal.coordinate-requires-3-clause-low
coordinate-requires-3-clause-low c = rw (to_z-of_z w64 c.args.numbers.z (search rules)) (c.requires Z).0

pub coordinate-requires-3-clause-high : goal.coordinate-requires-3-clause-high
coordinate-requires-3-clause-high c = rw (to_z-of_z w64 c.args.numbers.z (search rules), c.coordinates-3.ensures.same) (c.requires Z).1
