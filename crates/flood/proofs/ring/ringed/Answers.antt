-- Few numbers leave room for two more.
use Rattle.std.proofs.Common.{arith}
use Rattle.solid_model.specs.declared.cell.Axis.TheVariants.{X, Y, Z}
use Rattle.flood.proofs.ring.ringed.Goals as goal

pub overflow_add-result : goal.overflow_add-result
overflow_add-result c = let l = c.requires X in omega arith

pub overflow_add-result-2 : goal.overflow_add-result-2
overflow_add-result-2 c = let l = c.requires Y in omega arith

pub overflow_add-result-3 : goal.overflow_add-result-3
overflow_add-result-3 c = let l = c.requires Z in omega arith

pub returns-clause-few : goal.returns-clause-few
returns-clause-few c X = let l = c.requires X in omega arith
returns-clause-few c Y = let l = c.requires Y in omega arith
returns-clause-few c Z = let l = c.requires Z in omega arith
