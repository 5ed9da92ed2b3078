-- By computing.
use Rattle.std.proofs.Common.{true, [], ◌∷◌, refl}
use Rattle.std.specs.Fmt.{digits}
use Rattle.stl_out.specs.SmallStl.{brick_coordinates}
use Rattle.stl_out.specs.StlText.{numbers_text, facet_text}
use Rattle.stl_out.specs.Walk.{on_all_sides}
use Rattle.stl_out.proofs.SomeRectangles.{chosen_marks, walked}
use Rattle.stl_out.proofs.laws.small_stl.Goals as goal

pub returns-clause-brick : goal.returns-clause-brick
returns-clause-brick c = (on_all_sides (chosen_marks brick_coordinates (true ∷ [])), walked brick_coordinates (true ∷ []), refl)

pub returns-clause-facet : goal.returns-clause-facet
unfolding digits numbers_text facet_text
returns-clause-facet c = refl
