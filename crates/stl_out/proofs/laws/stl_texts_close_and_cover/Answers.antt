-- Its grid cells are as many as its cells at most, and those of a choice.
use Rattle.stl_out.proofs.SolidSurfaces.{close_and_cover}
use Rattle.stl_out.proofs.laws.stl_texts_close_and_cover.Goals as goal

pub returns : goal.returns
returns c = close_and_cover
