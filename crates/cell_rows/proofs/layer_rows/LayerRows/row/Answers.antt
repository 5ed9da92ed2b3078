-- The row at its place.
use Rattle.std.proofs.Common.{slice_index_or, ap, sym, ◌∙◌, arith}
use Rattle.cell_rows.proofs.LayerCells.{spaced_at, spaced_past}
use Rattle.cell_rows.proofs.layer_rows.LayerRows.row.Goals as goal

pub returns-then-number-self : goal.returns-then-number-self
returns-then-number-self c =
    let s = c.self.inside in
    sym (spaced_at s.rows.now s.start s.stride s.count c.args.number c.if-number-self.true)
    ∙ ap (λ ws. slice_index_or ws c.args.number 0) c.self.view_is

pub returns-else-number-self : goal.returns-else-number-self
returns-else-number-self c =
    let s = c.self.inside in
    sym (spaced_past s.rows.now s.start s.stride s.count c.args.number (omega (arith, c.if-number-self.false)))
    ∙ ap (λ ws. slice_index_or ws c.args.number 0) c.self.view_is
