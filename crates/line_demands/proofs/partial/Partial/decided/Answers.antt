-- No block is decided twice.
use Rattle.std.proofs.Common.{◌≤◌, length, subst, arith}
use Rattle.solid_model.specs.Decisions.{PartialParts}
use Rattle.line_demands.proofs.Deciding.{few_taken}
use Rattle.line_demands.proofs.partial.Partial.decided.Goals as goal

pub overflow_cast-result : goal.overflow_cast-result
overflow_cast-result c =
    let p = c.self.inside.problem.now in
    let few = few_taken p.blocks.count c.self.inside.decisions.items c.self.invariant.0.decided in
    omega (arith, few, c.known.ensures.few, c.len.ensures, c.self.inside.decisions.ok.0)

pub returns-clause-few : goal.returns-clause-few
returns-clause-few c = subst (λ (v : PartialParts). length v.decisions ≤ v.problem.blocks.count) c.self.view_is
    (few_taken c.self.inside.problem.now.blocks.count c.self.inside.decisions.items c.self.invariant.0.decided)
