-- A grid's edges are few.
use Rattle.solid_model.proofs.BoxPlaces.{few_numbers}
use Rattle.pseudo_wire.proofs.wire.EdgesAlongCellTest.test.Goals as goal

pub is_marked_edge-requires : goal.is_marked_edge-requires
is_marked_edge-requires c = few_numbers _ c.requires.few c.args.cell c.requires.within c.args.self.now.axis
