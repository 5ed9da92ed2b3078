-- There is one point more than cells along each axis, but one alone away from the viewer; and they are few.
use Rattle.std.proofs.Common.{◌≡◌, sym, ◌∙◌, ap, subst, arith}
use Rattle.solid_model.specs.declared.cell.Axis.TheVariants.{X, Y, Z}
use Rattle.solid_model.specs.declared.frame.Frame.{Frame}
use Rattle.solid_model.specs.PerAxis.{numbers_of, numbered, AreFew}
use Rattle.solid_model.specs.WalledBoxes.{Sizes}
use Rattle.pseudo_wire.specs.DrawnPoints.{point_sizes, view_sizes}
use Rattle.pseudo_wire.proofs.MarkedPoints.{few_points}
use Rattle.pseudo_wire.proofs.drawn_points.ViewPointsCellTest.sizes.Goals as goal

pub overflow_add-points : goal.overflow_add-points
overflow_add-points c = omega (arith, c.sizes-cells.ensures.few X)

pub overflow_add-points-2 : goal.overflow_add-points-2
overflow_add-points-2 c = omega (arith, c.sizes-cells.ensures.few Y)

pub overflow_add-points-3 : goal.overflow_add-points-3
overflow_add-points-3 c = omega (arith, c.sizes-cells.ensures.few Z)

pub returns-clause-sizes : goal.returns-clause-sizes
returns-clause-sizes c =
    c.numbered.ensures ∙ ap (λ (f : Frame). numbered f.away.axis 1 (point_sizes (numbers_of c.sizes-cells.result))) c.frame.ensures
    ∙ ap (λ (s : Sizes). view_sizes s c.args.self.now.view) c.sizes-cells.ensures.sizes

pub returns-clause-few : goal.returns-clause-few
returns-clause-few c =
    let is : numbers_of c.numbered.result ≡ view_sizes (numbers_of c.sizes-cells.result) c.args.self.now.view =
    c.numbered.ensures ∙ ap (λ (f : Frame). numbered f.away.axis 1 (point_sizes (numbers_of c.sizes-cells.result))) c.frame.ensures in
    subst (λ (s : Sizes). AreFew s) (sym is) (few_points (numbers_of c.sizes-cells.result) c.sizes-cells.ensures.few c.args.self.now.view)
