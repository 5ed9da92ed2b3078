-- Bit by bit.
use Rattle.std.proofs.Common.{◌&&◌, not, ◌∙◌, arith}
use Rattle.lemmas.specs.Bits.{is_set}
use Rattle.lemmas.proofs.WordBits.{set_without}
use Rattle.faces.proofs.plane.boundary_row.Goals as goal

pub returns : goal.returns
returns c u l =
    set_without c.row.result c.row-2.result u (omega (arith, c.row.type_inv)) (omega (arith, c.row-2.type_inv))
    ∙ (λ i. is_set (c.row.ensures i) u && not (is_set (c.row-2.ensures i) u))
