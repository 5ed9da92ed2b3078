-- The cells are as many as those of the grid.
use Rattle.std.proofs.Common.{ap, sym, ◌∙◌}
use Rattle.solid_model.specs.WalledBoxes.{box_count}
use Rattle.surface_tests.proofs.face_lists.by_cells.Goals as goal

pub faces_of_solid-requires : goal.faces_of_solid-requires
faces_of_solid-requires c = c.as_slice.ensures.len ∙ sym c.len.ensures ∙ c.if-len-wanted.false ∙ c.count-wanted.ensures ∙ ap box_count c.sizes.ensures.sizes
