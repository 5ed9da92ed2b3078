-- The first of all lines, or none.
use Rattle.solid_model.specs.Decisions.{decided_by}
use Rattle.line_demands.proofs.LeastBroken.{told_some, told_none}
use Rattle.line_demands.proofs.partial.Partial.broken_line.Goals as goal

pub returns-clause-some : goal.returns-clause-some
returns-clause-some c = told_some c.args.self.now.problem (decided_by c.args.self.now.decisions) c.first_broken.result c.first_broken.ensures

pub returns-clause-none : goal.returns-clause-none
returns-clause-none c = told_none c.args.self.now.problem (decided_by c.args.self.now.decisions) c.first_broken.result c.first_broken.ensures
