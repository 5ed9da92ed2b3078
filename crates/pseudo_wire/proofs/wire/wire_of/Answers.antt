-- Along each axis the marks are the pseudo edges.
use Rattle.std.proofs.Common.{IsTrue, refl}
use Rattle.solid_model.specs.Marks.{AreMarksOf}
use Rattle.solid_model.specs.Kept.{edge_sizes}
use Rattle.solid_model.specs.Wire.{is_pseudo_edge}
use Rattle.solid_model.specs.GridBox.{grid_sizes}
use Rattle.solid_model.proofs.MarkedCells.{marks_by_axis}
use Rattle.pseudo_wire.proofs.wire.wire_of.Goals as goal

pub returns : goal.returns
returns c =
    let g = c.args.grid.now in
    marks_by_axis (λ a marks. AreMarksOf (edge_sizes (grid_sizes g) a) (λ n. IsTrue (is_pseudo_edge g a n)) marks) _ _ _ _ refl
    c.in_ok-edges_along.ensures c.in_ok-edges_along-2.ensures c.in_ok-edges_along-3.ensures
