use Rattle.std.proofs.Common.{List, Bool, sym, subst}
use Rattle.drawing_maker.specs.Made.{made_solid}
use Rattle.made_laws.proofs.MadeSolid.{made_is_solid}
use Rattle.solid_model.specs.Cells.{is_full}
use Rattle.solid_model.specs.Grid.{IsUnionOf}
use Rattle.solid_model.specs.Panels.{coordinates_of}
use Rattle.recon_run.proofs.trial.made_file.Goals as goal

pub returns : goal.returns
returns c =
    let n = c.args.n in
    c.in_ok-text.ensures (made_solid n) (made_is_solid n)
    (subst (λ (cells : List Bool). IsUnionOf (coordinates_of c.in_ok-grid.grid) cells (is_full (made_solid n))) (sym c.as_slice.ensures.value)
    c.in_ok-grid.ensures.cells)
