-- The rows are those of the grid.
use Rattle.std.proofs.Common.{ap, ◌∙◌}
use Rattle.solid_model.specs.PerAxis.{numbers_of}
use Rattle.surface_tests.proofs.face_lists.told_by_rows.Goals as goal

pub faces_of_rows-requires : goal.faces_of_rows-requires
faces_of_rows-requires c = ap numbers_of c.in_ok-rows.ensures ∙ c.sizes.ensures.sizes
