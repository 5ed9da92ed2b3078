-- A negative exponent that the decimals don't outweigh moves the point to the left by what is left of it.
use Rattle.std.proofs.Common.{◌≡◌, ◌-◌, pos, neg_ℤ, Bool, true, false, not, option_map, refl, ap, ◌∙◌, sym, arith}
use Rattle.std.specs.Prelude.{◌+ℤ◌}
use Rattle.std.proofs.lemmas.Int.{ints}
use Rattle.dxf_groups.specs.NumeralParts.{capped}
use Rattle.dxf_groups.specs.Numerals.{magnitude_of, with_sign}
use Rattle.dxf_groups.proofs.numerals.magnitude.Goals as goal

-- what isn't positive is negative
is_true : (b : Bool) → not b ≡ false → b ≡ true
is_true true e = refl
is_true false e = absurd cc

pub returns-then-exponent-decimals : goal.returns-then-exponent-decimals
returns-then-exponent-decimals c = λ e kept.
    let n = kept.magnitude in
    let decimals = c.args.decimals in
    let negative : with_sign c.args.exponent.negative n ≡ neg_ℤ (pos n) =
    ap (λ s. with_sign s n) (is_true c.args.exponent.negative c.if-not-exponent.false) in
    let value : e ≡ neg_ℤ (pos n) = kept.value ∙ negative in
    let power : (e +ℤ pos decimals) ≡ neg_ℤ (pos (n - decimals)) = omega (arith, ints) in
    c.moved_left.ensures (n - decimals) (omega arith)
    ∙ sym
    (ap (λ z. option_map capped (magnitude_of c.args.before.now c.args.after.now z)) power)
