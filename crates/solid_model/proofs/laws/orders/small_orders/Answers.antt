-- Each solid is ahead of the next at the first cell that only it has.
use Rattle.std.proofs.Common.{[], ◌∷◌, refl}
use Rattle.solid_model.specs.Cells.{cell_at}
use Rattle.solid_model.specs.SmallSolids.{five_of_eight, four_of_eight, other_four_of_eight}
use Rattle.solid_model.specs.Orders.{SolidPrecedes}
use Rattle.solid_model.proofs.SolidOrder.{precedes_by_cell}
use Rattle.solid_model.proofs.laws.orders.small_orders.Goals as goal

five_first : SolidPrecedes five_of_eight four_of_eight
five_first = precedes_by_cell (cell_at 0 0 0 ∷ [])
    (cell_at 1 1 0 ∷ cell_at 1 0 1 ∷ cell_at 0 1 1 ∷ []) (cell_at 1 1 0 ∷ cell_at 1 0 1 ∷ cell_at 0 1 1 ∷ [])
    (cell_at 0 1 0) (refl, (refl, (refl, tt))) (refl, (refl, (refl, tt))) refl

five_before_other : SolidPrecedes five_of_eight other_four_of_eight
five_before_other = precedes_by_cell []
    (cell_at 0 1 0 ∷ cell_at 1 1 0 ∷ cell_at 1 0 1 ∷ cell_at 0 1 1 ∷ []) other_four_of_eight
    (cell_at 0 0 0) (refl, (refl, (refl, (refl, tt)))) (refl, (refl, (refl, (refl, tt)))) refl

four_before_other : SolidPrecedes four_of_eight other_four_of_eight
four_before_other = precedes_by_cell [] (cell_at 1 1 0 ∷ cell_at 1 0 1 ∷ cell_at 0 1 1 ∷ []) other_four_of_eight
    (cell_at 0 0 0) (refl, (refl, (refl, tt))) (refl, (refl, (refl, (refl, tt)))) refl

pub returns-clause-solids : goal.returns-clause-solids
returns-clause-solids c = ((five_first, (five_before_other, tt)), ((four_before_other, tt), (tt, tt)))
