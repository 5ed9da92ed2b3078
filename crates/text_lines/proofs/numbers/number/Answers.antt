use Rattle.std.proofs.Common.{◌+◌, ◌*◌, ap₂, sym, ◌∙◌, arith}
use Rattle.text_lines.proofs.NumberWords.{no_number, short_value, read_take, digits_take}
use Rattle.text_lines.proofs.numbers.number.Goals as goal

pub returns-then-not-is_ascii_digit : goal.returns-then-not-is_ascii_digit
returns-then-not-is_ascii_digit c = no_number c.args.word.now c.loop-place.place c.loop-place-test.true (sym c.is_ascii_digit.ensures.value ∙ c.if-not-is_ascii_digit.true)

pub overflow_mul-number : goal.overflow_mul-number
overflow_mul-number c =
    let s = short_value c.args.word.now c.loop-place.place (omega (arith, c.if-len-gt10.false)) c.loop-place.invariant.digits in
    let v = c.loop-place.invariant.value in
    omega (arith, s, v)

pub overflow_add-number : goal.overflow_add-number
overflow_add-number c =
    let s = short_value c.args.word.now c.loop-place.place (omega (arith, c.if-len-gt10.false)) c.loop-place.invariant.digits in
    let v = c.loop-place.invariant.value in
    let b = c.type_inv.word c.loop-place.place in
    let d = c.from.ensures in
    omega (arith, s, v, b, d)

pub loop-place-preserved : goal.loop-place-preserved
loop-place-preserved c =
    record {
      value = ap₂ (λ n d. n * 10 + d) c.loop-place.invariant.value c.from.ensures ∙ sym (read_take c.args.word.now c.loop-place.place 0 c.loop-place-test.true);
      digits = digits_take c.args.word.now c.loop-place.place c.loop-place-test.true c.loop-place.invariant.digits (sym c.is_ascii_digit.ensures.value ∙ c.if-not-is_ascii_digit.false);
    }
