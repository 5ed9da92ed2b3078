-- The column, or none of it.
use Rattle.std.proofs.Common.{◌==◌, ap, sym, ◌∙◌}
use Rattle.std.proofs.lemmas.Nat.Bits.{bit_at-zero}
use Rattle.faces.proofs.ends.some_column.Goals as goal

pub returns-else-has_bit : goal.returns-else-has_bit
returns-else-has_bit c k l =
    ap (λ b. b == 1) (bit_at-zero k) ∙ sym (c.requires.all k c.args.number (sym c.has_bit.ensures ∙ c.if-has_bit.false))
