-- The layer on that side.
use Rattle.std.proofs.Common.{pos, ap, sym, ◌∙◌}
use Rattle.solid_model.specs.declared.frame.Direction.{Direction}
use Rattle.solid_model.specs.Marks.{is_marked}
use Rattle.faces.proofs.PlaneRows.{behind_outwards, before_outwards}
use Rattle.faces.proofs.plane.outer_rows.Goals as goal

pub returns-then-direction : goal.returns-then-direction
returns-then-direction c u v l =
    c.layer.ensures u v l
    ∙ ap (is_marked c.args.cells.now) (behind_outwards c.args.out (pos c.args.at) _ (sym (ap (λ (d : Direction). d.forward) c.direction.ensures) ∙ c.if-direction.true))

pub returns-else-direction : goal.returns-else-direction
returns-else-direction c u v l =
    c.layer_before.ensures u v l
    ∙ ap (is_marked c.args.cells.now) (before_outwards c.args.out (pos c.args.at) _ (sym (ap (λ (d : Direction). d.forward) c.direction.ensures) ∙ c.if-direction.false))
