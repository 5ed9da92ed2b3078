-- The sizes are those of the grid's edges.
use Rattle.std.proofs.Common.{ap, sym, subst, ◌∙◌}
use Rattle.solid_model.specs.PerAxis.{numbers_of, AreFew}
use Rattle.solid_model.specs.Kept.{edge_sizes}
use Rattle.solid_model.proofs.BoxPlaces.{few_edges}
use Rattle.pseudo_wire.proofs.wire.EdgesAlongCellTest.sizes.Goals as goal

pub returns-clause-sizes : goal.returns-clause-sizes
returns-clause-sizes c = c.edges.ensures ∙ ap (λ s. edge_sizes s c.args.self.now.axis) c.sizes.ensures.sizes

pub returns-clause-few : goal.returns-clause-few
returns-clause-few c =
    subst (λ s. AreFew s) (sym c.edges.ensures) (few_edges (numbers_of c.sizes.result) c.sizes.ensures.few c.args.self.now.axis)
