-- Edges and inside places rest on which cells are full.
use Rattle.solid_model.specs.Cells.{is_full}
use Rattle.solid_model.proofs.Styles.{same_drawing}
use Rattle.solid_model.proofs.laws.drawings.order_and_repeats_do_not_matter.Goals as goal

pub returns : goal.returns
returns c = λ f s t. same_drawing f (is_full s) (is_full t)
