-- The product is small.
use Rattle.std.proofs.Common.{◌≤◌, ◌*◌, arith}
use Rattle.std.proofs.lemmas.Nat.{mul-le}
use Rattle.solid_model.specs.declared.cell.Axis.TheVariants.{X, Y}
use Rattle.cell_rows.proofs.rows.stride.Goals as goal

pub overflow_mul-result : goal.overflow_mul-result
overflow_mul-result c =
    let few : c.args.sizes.y * c.args.sizes.x ≤ 1048576 = mul-le c.args.sizes.y c.args.sizes.x 1024 1024 (c.requires Y) (c.requires X) in
    omega arith
