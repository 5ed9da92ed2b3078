-- A line is kept for each.
use Rattle.std.proofs.Common.{length, ap, sym, ◌∙◌}
use Rattle.std.proofs.lemmas.List.{length-map}
use Rattle.solid_model.specs.Decisions.{PartialParts}
use Rattle.line_demands.proofs.partial.Partial.line_count.Goals as goal
use Rattle.solid_model.specs.Demands.{lines_of}

pub returns : goal.returns
returns c =
    c.len.ensures ∙ c.self.inside.sides.ok.0 ∙ sym (length-map c.self.inside.sides.items (λ b. b.line)) ∙ ap length c.self.invariant.0.plan.lines.listed
    ∙ ap (λ (v : PartialParts). length (lines_of v.problem.grid)) c.self.view_is
