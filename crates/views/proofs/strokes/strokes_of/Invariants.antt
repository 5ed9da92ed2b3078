use Rattle.std.proofs.Common.{◌≡◌, drop}
use Rattle.solid_model.specs.declared.segment.Segment.{Segment}
use Rattle.solid_model.specs.declared.segment.Style.{Style}
use Rattle.solid_model.specs.Drawings.{is_covered}
use Rattle.views.specs.Corners.{from_corner}
use Rattle.views.proofs.LineTests.{is_met}
use Rattle.views.proofs.strokes.strokes_of.Given as goal

abbrev pub invariant-loop-line : goal.invariant-loop-line
invariant-loop-line l = (style : Style) (g : Segment) → g.view ≡ l.view → g.upright ≡ l.upright
    → is_met style l.corner g l.strokes.items (drop l.line-index l.lines) ≡ is_covered style l.lines (from_corner l.corner g)
