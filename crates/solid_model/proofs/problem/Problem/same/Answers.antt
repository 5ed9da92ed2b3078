-- The same grid has the same blocks.
use Rattle.std.proofs.Common.{sym, ◌∙◌, ap}
use Rattle.solid_model.specs.Blocks.{ProblemParts}
use Rattle.solid_model.proofs.OneProblem.{same_problems}
use Rattle.solid_model.proofs.problem.Problem.same.Goals as goal

pub returns : goal.returns
returns c =
    let own : ProblemParts = record { grid = c.self.inside.grid; blocks = c.self.inside.blocks } in
    let others : ProblemParts = record { grid = c.other.inside.grid; blocks = c.other.inside.blocks } in (
      λ yes. sym c.self.view_is ∙ same_problems own others c.self.invariant c.other.invariant (c.same.ensures.0 yes) ∙ c.other.view_is,
      λ e. c.same.ensures.1 (ap (λ (p : ProblemParts). p.grid) (c.self.view_is ∙ e ∙ sym c.other.view_is)),
    )
