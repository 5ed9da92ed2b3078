-- Small sizes have a small product.
use Rattle.std.proofs.Common.{arith}
use Rattle.solid_model.specs.PerAxis.{numbers_of}
use Rattle.solid_model.proofs.BoxPlaces.{layers_small, cells_small}
use Rattle.solid_model.proofs.per_axis.PerAxis.count.Goals as goal

pub overflow_mul-result : goal.overflow_mul-result
overflow_mul-result c = let l = layers_small (numbers_of c.args.self) c.requires in omega arith

pub overflow_mul-result-2 : goal.overflow_mul-result-2
overflow_mul-result-2 c = let l = cells_small (numbers_of c.args.self) c.requires in omega arith
