-- The grid has so many coordinates.
use Rattle.std.proofs.lemmas.Result.{IfOk-weaker}
use Rattle.solid_model.specs.Panels.{coordinates_of}
use Rattle.columns.proofs.draw.draw_cells.Goals as goal

pub returns : goal.returns
returns c = IfOk-weaker c.draw_in.result _ _ (λ panels are. are (coordinates_of c.args.grid.now) c.counts_of.ensures.counts) c.draw_in.ensures
