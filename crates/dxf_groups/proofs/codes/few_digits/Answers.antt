use Rattle.std.proofs.Common.{◌∙◌, arith}
use Rattle.dxf_groups.proofs.FewDigits.{four_digits}
use Rattle.dxf_groups.proofs.codes.few_digits.Goals as goal

pub returns-in-len4 : goal.returns-in-len4
returns-in-len4 c =
    c.number_of-in-len4.ensures
    ∙ four_digits c.args.digits.now _ _ _ _
    (omega (arith, c.in-len4.len_at_least, c.in-len4.len_below))
