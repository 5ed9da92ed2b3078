-- The lines of the sides so far.
use Rattle.lemmas.specs.Lists.{Each}
use Rattle.solid_model.specs.Marks.{is_marked}
use Rattle.solid_model.specs.Panels.{coordinates_of}
use Rattle.report.specs.PlaneTexts.{AreLinesUnlessChanged, AreFirstLines}
use Rattle.report.proofs.plane_texts.put_all.Given as goal

abbrev pub invariant-loop-out : goal.invariant-loop-out
invariant-loop-out l = record {
  each : Each (AreLinesUnlessChanged l.decimals (coordinates_of l.grid) (is_marked l.cells) l.fn.changed) l.planes.items;
  first : AreFirstLines l.decimals (coordinates_of l.grid) (is_marked l.cells) l.out-index 0 l.planes.items l.place;
}
