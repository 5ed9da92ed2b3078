-- Its columns are the solid's own, cut and filled.
use Rattle.section_laws.proofs.SectionDrawing.{section_drawn}
use Rattle.section_laws.proofs.laws.sections_are_views_of_shaded_cells.Goals as goal

pub returns : goal.returns
returns c = section_drawn
