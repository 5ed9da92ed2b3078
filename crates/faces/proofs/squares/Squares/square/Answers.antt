-- There are few rows.
use Rattle.std.proofs.Common.{arith}
use Rattle.faces.proofs.squares.Squares.square.Goals as goal

pub returns-clause-v : goal.returns-clause-v
returns-clause-v c =
    let few = c.known.ensures.few in
    omega (arith, few, c.requires)
