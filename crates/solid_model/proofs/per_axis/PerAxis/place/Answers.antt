-- A place is one of the places of all cells.
use Rattle.std.proofs.Common.{arith}
use Rattle.solid_model.specs.PerAxis.{numbers_of, cell_of}
use Rattle.solid_model.proofs.BoxPlaces.{layers_small, cells_small, row_there, place_there, numbers_below, cell_there}
use Rattle.solid_model.proofs.per_axis.PerAxis.place.Goals as goal

pub overflow_mul-result : goal.overflow_mul-result
overflow_mul-result c =
    let below = numbers_below (numbers_of c.args.self) c.args.cell c.requires.within in
    let row = row_there (numbers_of c.args.self) c.args.cell.x c.args.cell.y c.args.cell.z below.x below.y below.z in
    let few = layers_small (numbers_of c.args.self) c.requires.few in omega arith

pub overflow_add-result : goal.overflow_add-result
overflow_add-result c =
    let below = numbers_below (numbers_of c.args.self) c.args.cell c.requires.within in
    let row = row_there (numbers_of c.args.self) c.args.cell.x c.args.cell.y c.args.cell.z below.x below.y below.z in
    let few = layers_small (numbers_of c.args.self) c.requires.few in omega arith

pub overflow_mul-result-2 : goal.overflow_mul-result-2
overflow_mul-result-2 c =
    let below = numbers_below (numbers_of c.args.self) c.args.cell c.requires.within in
    let there = place_there (numbers_of c.args.self) c.args.cell.x c.args.cell.y c.args.cell.z below.x below.y below.z in
    let few = cells_small (numbers_of c.args.self) c.requires.few in omega arith

pub overflow_add-result-2 : goal.overflow_add-result-2
overflow_add-result-2 c =
    let below = numbers_below (numbers_of c.args.self) c.args.cell c.requires.within in
    let there = place_there (numbers_of c.args.self) c.args.cell.x c.args.cell.y c.args.cell.z below.x below.y below.z in
    let few = cells_small (numbers_of c.args.self) c.requires.few in omega arith

pub returns-clause-there : goal.returns-clause-there
returns-clause-there c = cell_there (numbers_of c.args.self) (cell_of c.args.cell) c.requires.within
