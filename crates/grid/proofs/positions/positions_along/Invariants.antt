use Rattle.std.proofs.Common.{◌↔◌, ◌<◌, take, ℤ}
use Rattle.lemmas.specs.Lists.{Member}
use Rattle.solid_model.specs.Runs.{IsDrawing, style_in}
use Rattle.grid.specs.Positions.{ShowsInSomeView}
use Rattle.grid.proofs.positions.positions_along.Given as goal

abbrev pub invariant-loop-view : goal.invariant-loop-view
invariant-loop-view l = record {
  shown : (z : ℤ) → Member l.positions.items z ↔ ShowsInSomeView (style_in l.drawing) l.axis (take l.view-index l.view-items) z;
  kept : 0 < l.view-index → IsDrawing (style_in l.drawing);
}
