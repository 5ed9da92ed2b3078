use Rattle.std.proofs.Common.{◌∙◌, ap}
use Rattle.solid_model.specs.Frames.{along}
use Rattle.solid_model.proofs.grid.Grid.cells_along.Goals as goal

pub returns-clause-same : goal.returns-clause-same
returns-clause-same c =
    c.along-2.ensures ∙ (λ t. c.sizes.ensures.sizes t ((c.along.ensures ∙ ap (λ f. along f c.args.upright) c.frame.ensures) t).axis)
