use Rattle.std.proofs.Common.{IsTrue, subst}
use Rattle.solid_model.specs.Blocks.{ProblemParts}
use Rattle.solid_model.specs.Decisions.{decided_by}
use Rattle.solid_model.specs.Demands.{has_line}
use Rattle.proof_check.proofs.Judged.{force_judged}
use Rattle.proof_check.proofs.judging.shows_force.Goals as goal

pub returns-in-Some : goal.returns-in-Some
returns-in-Some c = force_judged c.args.partial.now.problem (decided_by c.args.partial.now.decisions) c.args.block c.args.full c.args.place c.in-Some.line c.excludes.result
    (subst (λ (p : ProblemParts). IsTrue (has_line p.grid c.in-Some.line)) c.problem.ensures c.in-Some.ensures.some.0) c.in-Some.ensures.some.1 c.excludes.ensures
