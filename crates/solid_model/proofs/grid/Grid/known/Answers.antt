-- Its sizes are few.
use Rattle.std.proofs.Common.{◌≤◌, ℕ, subst}
use Rattle.solid_model.specs.declared.cell.Axis.{Axis}
use Rattle.solid_model.proofs.grid.Grid.known.Goals as goal

pub returns-clause-few : goal.returns-clause-few
returns-clause-few c = λ a. subst (λ (s : Axis → ℕ). s a ≤ 63) c.sizes.ensures.sizes (c.sizes.ensures.few a)
