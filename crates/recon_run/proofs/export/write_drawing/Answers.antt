-- The file of the chosen cells is that of each solid which consists of them.
use Rattle.std.proofs.Common.{◌≡◌, ◌∙◌, List, ℕ, Bool, sym, subst, subst₂}
use Rattle.recon_run.proofs.TextByText.{ends_weaker}
use Rattle.redraw.specs.Files.{IsFileOf}
use Rattle.solid_model.specs.declared.cell.Cell.{Cell}
use Rattle.solid_model.specs.Cells.{IsSolid, is_full}
use Rattle.solid_model.specs.Grid.{IsUnionOf}
use Rattle.solid_model.specs.Panels.{GridParts, coordinates_of}
use Rattle.tv_base.specs.Faults.{Rose}
use Rattle.recon_run.proofs.export.write_drawing.Goals as goal

pub returns : goal.returns
returns g c s are =
    let decimals = c.args.decimals in
    let file = subst₂ (λ (grid : GridParts) (cells : List Bool). (s : List Cell) → IsSolid s → IsUnionOf (coordinates_of grid) cells (is_full s)
    → IsFileOf decimals s c.in_ok-text.text.items) c.grid.ensures.grid (c.as_slice.ensures.value ∙ c.in_ok-cells.ensures) c.in_ok-text.ensures in
    let written : (text : List ℕ) → text ≡ c.as_slice-2.result.now → IsFileOf decimals s text =
    λ text is. subst (IsFileOf decimals s) (sym (is ∙ c.as_slice-2.ensures.value)) (file s are.matching.0.0.0 are.filled.1) in
    ends_weaker (λ text. text ≡ c.as_slice-2.result.now) (λ text. text ≡ c.as_slice-2.result.now) (IsFileOf decimals s) (IsFileOf decimals s)
    (g.K.Sink.held c.args.sink.now) (g.K.Sink.held c.write_text.new.sink)
    (Rose (g.K.Sink.faults c.args.sink.now) (g.K.Sink.faults c.write_text.new.sink)) written written c.write_text.result c.write_text.ensures.ends
