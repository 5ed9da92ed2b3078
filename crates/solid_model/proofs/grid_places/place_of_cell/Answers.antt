-- No number is above 64.
use Rattle.std.proofs.Common.{arith}
use Rattle.solid_model.specs.declared.cell.Axis.TheVariants.{X, Y, Z}
use Rattle.solid_model.proofs.GridPlaces.{layers_few, rows_few}
use Rattle.solid_model.proofs.grid_places.place_of_cell.Goals as goal

pub overflow_mul-result : goal.overflow_mul-result
overflow_mul-result c = let l = layers_few _ _ (c.requires.cell Z) (c.requires.sizes Y) in omega arith

pub overflow_add-result : goal.overflow_add-result
overflow_add-result c = let l = layers_few _ _ (c.requires.cell Z) (c.requires.sizes Y) in omega (arith, c.requires.cell Y)

pub overflow_mul-result-2 : goal.overflow_mul-result-2
overflow_mul-result-2 c = let l = rows_few _ _ _ _ (c.requires.cell Z) (c.requires.sizes Y) (c.requires.cell Y) (c.requires.sizes X) in omega arith

pub overflow_add-result-2 : goal.overflow_add-result-2
overflow_add-result-2 c = let l = rows_few _ _ _ _ (c.requires.cell Z) (c.requires.sizes Y) (c.requires.cell Y) (c.requires.sizes X) in omega (arith, c.requires.cell X)

pub returns-clause-few : goal.returns-clause-few
returns-clause-few c = let l = rows_few _ _ _ _ (c.requires.cell Z) (c.requires.sizes Y) (c.requires.cell Y) (c.requires.sizes X) in omega (arith, c.requires.cell X)
