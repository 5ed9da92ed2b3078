use Rattle.std.proofs.Common.{◌∙◌, ap}
use Rattle.solid_model.specs.Frames.{across}
use Rattle.solid_model.proofs.grid.Grid.cells_across.Goals as goal

pub returns-clause-same : goal.returns-clause-same
returns-clause-same c =
    c.along.ensures ∙ (λ t. c.sizes.ensures.sizes t ((c.across.ensures ∙ ap (λ f. across f c.args.upright) c.frame.ensures) t).axis)
