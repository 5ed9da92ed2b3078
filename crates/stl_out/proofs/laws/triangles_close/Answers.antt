-- The rectangles between a full cell and an empty one close.
use Rattle.stl_out.proofs.Closing.{closes}
use Rattle.stl_out.proofs.laws.triangles_close.Goals as goal

pub returns : goal.returns
returns c = λ planes full list finite rs are e. closes planes full list finite rs are e
