-- The lines of the planes so far.
use Rattle.std.proofs.Common.{◌+◌}
use Rattle.solid_model.specs.Faces.{out_number}
use Rattle.lemmas.specs.Lists.{Each}
use Rattle.solid_model.specs.Marks.{is_marked}
use Rattle.solid_model.specs.Panels.{coordinates_of}
use Rattle.report.specs.PlaneTexts.{AreLinesUnlessChanged, AreFirstLines}
use Rattle.report.proofs.plane_texts.put_side.Given as goal

abbrev pub invariant-loop-at : goal.invariant-loop-at
invariant-loop-at l = record {
  each : Each (AreLinesUnlessChanged l.decimals (coordinates_of l.grid) (is_marked l.cells) l.fn.changed) l.planes.items;
  first : AreFirstLines l.decimals (coordinates_of l.grid) (is_marked l.cells) (out_number l.out) l.at l.planes.items (l.fn.first + l.at);
}
