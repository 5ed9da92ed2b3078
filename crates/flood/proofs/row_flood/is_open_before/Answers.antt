-- There is one row that stands so far before.
use Rattle.std.proofs.Common.{◌≡◌, ◌-◌, subst, arith}
use Rattle.flood.specs.RowFlood.{ways_of, IsClosedRow}
use Rattle.flood.proofs.row_flood.is_open_before.Goals as goal

pub returns-clause-closed : goal.returns-clause-closed
returns-clause-closed c closed r l e =
    let there : c.args.row - c.args.stride ≡ r = omega (arith, e) in
    subst (IsClosedRow (ways_of c.args.ways.now) c.args.reached.now) there (c.is_open.ensures closed)
