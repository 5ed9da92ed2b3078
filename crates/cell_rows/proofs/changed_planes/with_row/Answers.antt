-- Rows that are the same differ nowhere, and others where their boundary squares do.
use Rattle.std.proofs.Common.{ap, sym, ◌∙◌}
use Rattle.lemmas.specs.Bits.{is_set}
use Rattle.cell_rows.specs.Planes.{ends_at}
use Rattle.cell_rows.proofs.BoundaryPlanes.{planes_with}
use Rattle.cell_rows.proofs.changed_planes.with_row.Goals as goal

pub returns-then-row-other : goal.returns-then-row-other
returns-then-row-other c forward k l none = (none, ap (λ r. ends_at (is_set r) forward k) c.if-row-other.true)

pub returns : goal.returns
returns c forward k l none =
    let parts = planes_with c.args.planes c.planes_of_row-own.result c.planes_of_row-others.result forward k none in
    (parts.0, sym (c.planes_of_row-own.ensures forward k l) ∙ parts.1 ∙ c.planes_of_row-others.ensures forward k l)
