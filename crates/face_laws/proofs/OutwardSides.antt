-- The six outward sides by their numbers.
use Rattle.std.proofs.Common.{◌≡◌, ℕ, zero, suc, ◌<◌, refl, sym, ◌∙◌, ap, arith}
use Rattle.solid_model.specs.declared.face.Out.{Out}
use Rattle.solid_model.specs.declared.face.Out.TheVariants.{MinusX, PlusX, MinusY, PlusY, MinusZ, PlusZ}
use Rattle.solid_model.specs.Faces.{out_number}

-- the side of a number
abbrev out_of : ℕ → Out
out_of zero = MinusX
out_of (suc zero) = PlusX
out_of (suc (suc zero)) = MinusY
out_of (suc (suc (suc zero))) = PlusY
out_of (suc (suc (suc (suc zero)))) = MinusZ
out_of (suc (suc (suc (suc (suc n))))) = PlusZ

out_of-number : (o : Out) → out_of (out_number o) ≡ o
out_of-number MinusX = refl
out_of-number PlusX = refl
out_of-number MinusY = refl
out_of-number PlusY = refl
out_of-number MinusZ = refl
out_of-number PlusZ = refl

-- sides of one number are one
pub one_out : (o p : Out) → out_number o ≡ out_number p → o ≡ p
one_out o p e = sym (out_of-number o) ∙ ap out_of e ∙ out_of-number p

-- there are six
pub out_number-below : (o : Out) → out_number o < 6
out_number-below MinusX = omega arith
out_number-below PlusX = omega arith
out_number-below MinusY = omega arith
out_number-below PlusY = omega arith
out_number-below MinusZ = omega arith
out_number-below PlusZ = omega arith
