-- The last one is there.
use Rattle.std.proofs.Common.{◌-◌, length, rules}
use Rattle.std.proofs.lemmas.Bool.{eqb-true}
use Rattle.line_demands.proofs.Gathering.{times_at}
use Rattle.line_demands.proofs.plan.ends_in.Goals as goal

pub returns-then-not-is_empty-clause-there : goal.returns-then-not-is_empty-clause-there
returns-then-not-is_empty-clause-there c = λ same. times_at c.args.numbers.now (length c.args.numbers.now - 1) 0 c.args.number
    (search rules) (eqb-true _ c.args.number same)
