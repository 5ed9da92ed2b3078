-- The bit is set, and no other changes.
use Rattle.std.proofs.Common.{◌==◌, w64, ap}
use Rattle.std.proofs.lemmas.Bool.{eq-eqb}
use Rattle.std.proofs.lemmas.Nat.Bits.{bit_at_set_same, bit_at_set_other}
use Rattle.cell_rows.proofs.block_rows.with_bit.Goals as goal

pub returns-clause-here : goal.returns-clause-here
returns-clause-here c = eq-eqb _ 1 (bit_at_set_same w64 c.args.word c.args.bit c.requires)

pub returns-clause-others : goal.returns-clause-others
returns-clause-others c k apart = ap (λ b. b == 1) (bit_at_set_other w64 c.args.word c.args.bit c.requires k apart)
