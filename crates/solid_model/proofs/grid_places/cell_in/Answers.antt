-- The numbers are put in one after another.
use Rattle.std.proofs.Common.{refl, ap₂, ◌∙◌}
use Rattle.solid_model.specs.Limits.{most_grid_coordinates}
use Rattle.solid_model.specs.PerAxis.{numbered}
use Rattle.solid_model.proofs.GridPlaces.{few_more, few_first}
use Rattle.solid_model.proofs.grid_places.cell_in.Goals as goal

pub returns-clause-same : goal.returns-clause-same
returns-clause-same c =
    c.numbered-3.ensures
    ∙ ap₂ (numbered c.args.frame.right.axis) c.number_on-3.ensures.same
    (c.numbered-2.ensures ∙ ap₂ (numbered c.args.frame.up.axis) c.number_on-2.ensures.same
    (c.numbered.ensures ∙ ap₂ (numbered c.args.frame.away.axis) c.number_on.ensures.same refl))

pub returns-clause-few : goal.returns-clause-few
returns-clause-few c =
    few_more most_grid_coordinates c.args.frame.right.axis _ _ _ c.numbered-3.ensures (c.number_on-3.ensures.few (c.requires.sizes c.args.frame.right.axis))
    (few_more most_grid_coordinates c.args.frame.up.axis _ _ _ c.numbered-2.ensures (c.number_on-2.ensures.few (c.requires.sizes c.args.frame.up.axis))
    (few_more most_grid_coordinates c.args.frame.away.axis _ _ _ c.numbered.ensures (c.number_on.ensures.few (c.requires.sizes c.args.frame.away.axis))
    (few_first most_grid_coordinates)))
