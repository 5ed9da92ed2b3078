-- The digits of a power of ten and what is left of the number are a 1 and its last digits.
use Rattle.std.proofs.Common.{◌≡◌, ◌≤◌, ◌+◌, ◌%◌, ◌^◌, ◌∷◌, ◌++◌, List, ℕ, length, drop, ap, ◌∙◌, arith}
use Rattle.std.specs.Fmt.{decimal}
use Rattle.solid_model.specs.Limits.{most_decimals}
use Rattle.decimal_texts.specs.Decimals.{last_digits}
use Rattle.decimal_texts.proofs.LastDigits.{power_positive, behind_one}
use Rattle.decimal_texts.proofs.decimal.push_last_digits.Goals as goal

pub nonzero_rem-number : goal.nonzero_rem-number
nonzero_rem-number c =
    let power = c.pow-power.ensures ∙ ap (λ k. 10 ^ k) c.from.ensures in
    omega (arith, power, power_positive c.args.count)

-- a 1 and the last digits, as they are spelled
behind_one_spelled : (spelled text : List ℕ) (power exponent count number : ℕ) → spelled ≡ text → text ≡ decimal (power + number % power)
    → power ≡ 10 ^ exponent → exponent ≡ count → count ≤ most_decimals → spelled ≡ 49 ∷ last_digits count number
behind_one_spelled spelled text power exponent count number is same of by few =
    is ∙ same ∙ ap (λ p. decimal (p + number % p)) (of ∙ ap (λ k. 10 ^ k) by) ∙ behind_one count number few

pub split_at-requires : goal.split_at-requires
split_at-requires c =
    let is = behind_one_spelled _ _ _ _ c.args.count c.args.number c.as_bytes-behind_one.ensures.value c.format.ensures.text c.pow-power.ensures
    c.from.ensures c.requires in
    omega (arith, ap length is)

pub returns : goal.returns
returns c =
    let is = behind_one_spelled _ _ _ _ c.args.count c.args.number c.as_bytes-behind_one.ensures.value c.format.ensures.text c.pow-power.ensures
    c.from.ensures c.requires in
    c.in_ok-extend_from_slice.ensures.items ∙ ap (λ ds. c.args.text.now.items ++ ds) (c.split_at.ensures.back ∙ ap (drop 1) is)
