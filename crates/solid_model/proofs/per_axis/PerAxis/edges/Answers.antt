-- One more across the axis.
use Rattle.std.proofs.Common.{◌≡◌, suc, ◌+◌, ◌∙◌, arith}
use Rattle.solid_model.specs.declared.cell.Axis.{Axis}
use Rattle.solid_model.specs.declared.cell.Axis.TheVariants.{X, Y, Z}
use Rattle.solid_model.specs.declared.per_axis.PerAxis.{PerAxis}
use Rattle.solid_model.specs.PerAxis.{numbers_of, numbered}
use Rattle.solid_model.proofs.BoxPlaces.{numbered_edges}
use Rattle.solid_model.proofs.per_axis.PerAxis.edges.Goals as goal

pub overflow_add-points : goal.overflow_add-points
overflow_add-points c = let l = c.requires X in omega arith

pub overflow_add-points-2 : goal.overflow_add-points-2
overflow_add-points-2 c = let l = c.requires Y in omega arith

pub overflow_add-points-3 : goal.overflow_add-points-3
overflow_add-points-3 c = let l = c.requires Z in omega arith

more : (n : PerAxis) (b : Axis) → numbers_of (record { x = n.x + 1; y = n.y + 1; z = n.z + 1 }) b ≡ suc (numbers_of n b)
more n X = omega arith
more n Y = omega arith
more n Z = omega arith

pub returns : goal.returns
returns c = c.numbered.ensures ∙ (λ t. numbered c.args.axis (c.along.ensures t) (numbers_of (record { x = c.args.self.x + 1; y = c.args.self.y + 1; z = c.args.self.z + 1 })))
    ∙ numbered_edges (numbers_of c.args.self) c.args.axis _ (more c.args.self)
