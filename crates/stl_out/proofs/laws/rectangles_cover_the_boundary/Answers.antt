-- Each boundary square lies in one rectangle, and each other one in none.
use Rattle.stl_out.proofs.Covering.{covered}
use Rattle.stl_out.proofs.laws.rectangles_cover_the_boundary.Goals as goal

pub returns : goal.returns
returns c = λ planes rises numbered full are_cells rs are out at p. covered planes rises out at p numbered full are_cells rs are
