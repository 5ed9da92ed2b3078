-- Twenty zeros or more after a number that isn't 0 are too many.
use Rattle.dxf_groups.proofs.NumeralDigits.{capped_zeros}
use Rattle.dxf_groups.proofs.numerals.with_zeros.Goals as goal

pub returns-then-zeros-gt-MOST_ZEROS : goal.returns-then-zeros-gt-MOST_ZEROS
returns-then-zeros-gt-MOST_ZEROS c =
    capped_zeros c.args.number c.args.zeros c.if-number-eq0.false c.if-zeros-gt-MOST_ZEROS.true
