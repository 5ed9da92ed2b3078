-- There are few rows.
use Rattle.std.proofs.Common.{arith}
use Rattle.std.proofs.lemmas.Nat.{mul-le}
use Rattle.solid_model.specs.declared.cell.Axis.TheVariants.{Y, Z}
use Rattle.solid_model.specs.PerAxis.{numbers_of}
use Rattle.solid_model.proofs.BoxPlaces.{numbers_below}
use Rattle.flood.proofs.leading.is_in_rows.Goals as goal

pub overflow_mul-row : goal.overflow_mul-row
overflow_mul-row c =
    let below = numbers_below (numbers_of c.args.sizes) c.args.cell c.requires.within in
    let few_rows = c.requires.few Y in let few_layers = c.requires.few Z in let z = below.z in
    let l = mul-le c.args.cell.z c.args.sizes.y 1022 1022 (omega arith) few_rows in omega arith

pub overflow_add-row : goal.overflow_add-row
overflow_add-row c =
    let below = numbers_below (numbers_of c.args.sizes) c.args.cell c.requires.within in
    let few_rows = c.requires.few Y in let few_layers = c.requires.few Z in let z = below.z in let y = below.y in
    let l = mul-le c.args.cell.z c.args.sizes.y 1022 1022 (omega arith) few_rows in omega arith
