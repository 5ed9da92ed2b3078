-- What a text stands for is near.
use Rattle.std.proofs.Common.{◌≡◌, ℕ, Bool, true, false, cond, nat_le, List, Option, Some, None, Ok, Err, IfOk, pos, refl, arith}
use Rattle.std.specs.Prelude.{◌+ℤ◌}
use Rattle.std.proofs.lemmas.Bool.{leb-true}
use Rattle.std.proofs.lemmas.Int.{ints}
use Rattle.solid_model.specs.Line.{IsNear}
use Rattle.dxf_groups.specs.declared.numerals.NumeralFault.TheVariants.{TooFar}
use Rattle.dxf_groups.specs.Numerals.{Numeral, numeral_of, magnitude_of, value_or_fault, scaled_of, with_sign, within_reach}

-- a magnitude within reach gives a near number, with either sign
magnitude_near : (negative : Bool) (m : ℕ) (b : Bool) → nat_le m 1000000000 ≡ b
    → IfOk (cond b (Ok (with_sign negative m)) (Err TooFar)) IsNear
magnitude_near true m true e =
    let small = leb-true m 1000000000 e in
    (omega (arith, ints), omega (arith, ints))
magnitude_near false m true e =
    let small = leb-true m 1000000000 e in
    (omega (arith, ints), omega (arith, ints))
magnitude_near negative m false e = tt

-- so does what may be a magnitude
reach_near : (negative : Bool) (magnitude : Option ℕ)
    → IfOk (within_reach negative magnitude) IsNear
reach_near negative None = tt
reach_near negative (Some m) = magnitude_near negative m (nat_le m 1000000000) refl

-- and what may be a numeral
value_near : (decimals : ℕ) (n : Option Numeral) → IfOk (value_or_fault decimals n) IsNear
value_near decimals None = tt
value_near decimals (Some n) =
    reach_near n.negative (magnitude_of n.before n.after (n.exponent +ℤ pos decimals))

-- the number that a text stands for is near
pub scaled_near : (decimals : ℕ) (text : List ℕ) → IfOk (scaled_of decimals text) IsNear
unfolding scaled_of
scaled_near decimals text = value_near decimals (numeral_of text)
