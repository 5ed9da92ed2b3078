-- Its drawing has one grid, and its grid cells one list of rectangles.
use Rattle.stl_out.proofs.SolidTexts.{one_text, text_of_union}
use Rattle.stl_out.proofs.laws.one_stl_of_a_solid.Goals as goal

pub returns-clause-one : goal.returns-clause-one
returns-clause-one c = one_text

pub returns-clause-own : goal.returns-clause-own
returns-clause-own c = text_of_union
