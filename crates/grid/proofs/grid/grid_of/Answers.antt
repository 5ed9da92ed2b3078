use Rattle.std.proofs.Common.{sym, subst}
use Rattle.solid_model.specs.Panels.{IsGridOf}
use Rattle.solid_model.specs.Runs.{style_in}
use Rattle.grid.proofs.GridParts.{is_grid_of}
use Rattle.grid.proofs.grid.grid_of.Goals as goal

pub new-requires : goal.new-requires
new-requires c =
    let drawing = style_in c.args.drawing.now in
    let own = c.in_ok-coordinates.ensures in
    (drawing, own.kept, is_grid_of drawing c.in_ok-coordinates.coordinates c.in_ok-panels.panels own.kept own.coordinates c.in_ok-panels.ensures)

pub returns-clause-grid : goal.returns-clause-grid
returns-clause-grid c =
    let drawing = style_in c.args.drawing.now in
    let own = c.in_ok-coordinates.ensures in
    subst (IsGridOf drawing) (sym c.new.ensures)
    (is_grid_of drawing c.in_ok-coordinates.coordinates c.in_ok-panels.panels own.kept own.coordinates c.in_ok-panels.ensures)
