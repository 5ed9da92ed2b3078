-- A power of ten isn't 0.
use Rattle.std.proofs.Common.{◌^◌, ap, ◌∙◌, arith}
use Rattle.decimal_texts.proofs.LastDigits.{power_positive}
use Rattle.decimal_texts.proofs.decimal.push_pointed.Goals as goal

pub nonzero_div-whole : goal.nonzero_div-whole
nonzero_div-whole c =
    let power = c.pow.ensures ∙ ap (λ k. 10 ^ k) c.from.ensures in
    omega (arith, power, power_positive c.args.decimals)
