-- A grid has at most 63 cells along each axis.
use Rattle.std.proofs.Common.{◌≤◌, subst, inl, inr}
use Rattle.solid_model.specs.declared.cell.Axis.{Axis}
use Rattle.solid_model.specs.GridBox.{grid_sizes}
use Rattle.solid_model.specs.Panels.{GridParts}
use Rattle.proof_check.proofs.Asked.{far}
use Rattle.proof_check.proofs.asking.line_at.Goals as goal

pub returns-then-place-gt255-clause-none : goal.returns-then-place-gt255-clause-none
returns-then-place-gt255-clause-none c = λ _.
    let few = subst (λ (g : GridParts). (a : Axis) → grid_sizes g a ≤ 63) c.grid-grid.ensures.grid c.known.ensures.few in
    far c.args.problem.now.grid few c.args.place (inl c.if-place-gt255.true)

pub returns-then-place-gt255-2-clause-none : goal.returns-then-place-gt255-2-clause-none
returns-then-place-gt255-2-clause-none c = λ _.
    let few = subst (λ (g : GridParts). (a : Axis) → grid_sizes g a ≤ 63) c.grid-grid.ensures.grid c.known.ensures.few in
    far c.args.problem.now.grid few c.args.place (inr c.if-place-gt255-2.true)
