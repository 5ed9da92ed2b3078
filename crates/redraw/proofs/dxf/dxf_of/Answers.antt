-- The sheet shows the drawing of each such solid, since the panels do.
use Rattle.std.proofs.Common.{sym, subst}
use Rattle.std.proofs.lemmas.Result.{IfOk-weaker}
use Rattle.redraw.specs.Files.{IsFileOf}
use Rattle.redraw.proofs.DrawnRuns.{file_of_solid, some_drawing}
use Rattle.redraw.proofs.dxf.dxf_of.Goals as goal

pub sheet_of-requires : goal.sheet_of-requires
sheet_of-requires c = some_drawing c.args.grid.now c.in_ok-panels.panels c.args.cells.now c.in_ok-panels.ensures

pub returns : goal.returns
returns c = IfOk-weaker c.sheet_text.result _ _ (λ text is s solid union. subst (IsFileOf c.args.decimals s) (sym is)
    (file_of_solid c.args.grid.now c.in_ok-panels.panels c.args.cells.now s union (c.in_ok-panels.ensures s union) c.in_ok-sheet.sheet c.in_ok-sheet.ensures solid c.args.decimals)) c.sheet_text.ensures
