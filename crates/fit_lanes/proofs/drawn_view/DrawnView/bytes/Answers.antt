-- The upright ones, or the level ones.
use Rattle.std.proofs.Common.{ap, sym, ◌∙◌}
use Rattle.fit_lanes.specs.Drawn.{DrawnParts, bytes_along}
use Rattle.fit_lanes.proofs.drawn_view.DrawnView.bytes.Goals as goal

pub returns-then-upright : goal.returns-then-upright
returns-then-upright c = c.as_slice.ensures.value ∙ ap (λ (v : DrawnParts). v.upright) c.self.view_is ∙ ap (λ u. bytes_along u c.args.self.now) (sym c.if-upright.true)

pub returns-else-upright : goal.returns-else-upright
returns-else-upright c = c.as_slice-else-upright.ensures.value ∙ ap (λ (v : DrawnParts). v.level) c.self.view_is ∙ ap (λ u. bytes_along u c.args.self.now) (sym c.if-upright.false)
