use Rattle.std.proofs.Common.{◌≡◌, take, drop, IfNone, IfSome}
use Rattle.solid_model.specs.Drawings.{covering_lines}
use Rattle.solid_model.specs.Line.{IsKept}
use Rattle.lemmas.specs.Lists.{Each}
use Rattle.views.proofs.CornerSteps.{Brings}
use Rattle.views.proofs.corner.Corner.of_view.Given as goal

abbrev pub invariant-loop-line : goal.invariant-loop-line
invariant-loop-line l = record {
  none : IfNone l.corner (covering_lines l.view (drop l.line-index l.lines) ≡ covering_lines l.view l.lines);
  some : IfSome l.corner (Brings (covering_lines l.view (drop l.line-index l.lines)) l.view l.lines);
  kept : Each IsKept (take l.line-index l.lines);
}
