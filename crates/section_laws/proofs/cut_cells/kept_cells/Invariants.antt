-- The cells so far.
use Rattle.lemmas.proofs.Pushed.{HoldsSoFar}
use Rattle.solid_model.specs.Panels.{coordinates_of}
use Rattle.section_laws.specs.Shaded.{IsLeftCell}
use Rattle.section_laws.proofs.ChosenPlaces.{TellsAt}
use Rattle.section_laws.proofs.cut_cells.kept_cells.Given as goal

abbrev pub invariant-loop-place : goal.invariant-loop-place
invariant-loop-place l = HoldsSoFar (TellsAt (λ sizes. IsLeftCell l.area l.away sizes l.gap l.cells) (coordinates_of l.grid)) l.kept.items l.place
