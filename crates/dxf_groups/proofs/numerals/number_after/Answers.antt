-- Each digit is read on from the number so far.
use Rattle.std.proofs.Common.{◌≡◌, ◌+◌, ◌*◌, drop_of_length-le, get_or, ap, sym, ◌∙◌, arith}
use Rattle.std.specs.Char.{digit_value}
use Rattle.std.specs.Str.Parse.{digits_value_after}
use Rattle.dxf_groups.specs.NumeralParts.{capped}
use Rattle.dxf_groups.proofs.NumeralDigits.{capped_next, value_at}
use Rattle.dxf_groups.proofs.numerals.number_after.Goals as goal

pub overflow_sub-digit : goal.overflow_sub-digit
overflow_sub-digit c =
    (value_at c.args.digits.now c.loop-digit.digit-index c.requires c.loop-digit-test.true).0

pub loop-digit-preserved : goal.loop-digit-preserved
loop-digit-preserved c =
    let ds = c.args.digits.now in
    let i = c.loop-digit.digit-index in
    let value = (value_at ds i c.requires c.loop-digit-test.true).1 in
    let next : c.saturating_add-number.result ≡ capped (c.loop-digit.number * 10 + digit_value (get_or ds i 0)) =
    omega arith in
    let read_on =
    capped_next c.loop-digit.number c.saturating_add-number.result ds i c.loop-digit-test.true
    next in
    record { fits = omega arith; read_on = read_on ∙ c.loop-digit.invariant.read_on }

pub returns : goal.returns
returns c =
    let ds = c.args.digits.now in
    let rest =
    ap (λ xs. capped (digits_value_after 10 c.loop-digit.number xs))
    (drop_of_length-le ds c.loop-digit-test.false) in
    let kept : c.loop-digit.number ≡ capped c.loop-digit.number = omega arith in
    kept ∙ (sym rest ∙ c.loop-digit.invariant.read_on)
