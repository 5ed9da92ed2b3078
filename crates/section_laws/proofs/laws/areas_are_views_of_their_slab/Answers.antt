-- Its columns are full in the gap where the solid's are.
use Rattle.section_laws.proofs.AreaDrawing.{area_drawn}
use Rattle.section_laws.proofs.laws.areas_are_views_of_their_slab.Goals as goal

pub returns : goal.returns
returns c = area_drawn
