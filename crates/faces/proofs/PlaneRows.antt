-- The cells on both sides of a plane, by the layers that begin there.
use Rattle.std.proofs.Common.{◌≡◌, true, false, ℤ, pos, ◌-ℤ◌, sym, refl}
use Rattle.std.proofs.lemmas.Bool.{false≢true}
use Rattle.solid_model.specs.declared.face.Out.{Out}
use Rattle.solid_model.specs.declared.face.Out.TheVariants.{MinusX, PlusX, MinusY, PlusY, MinusZ, PlusZ}
use Rattle.solid_model.specs.Faces.{outward, place, inner_cell, outer_cell}
use Rattle.solid_model.specs.Rounds.{Spot}

-- where the axis leads outwards, the layer before the plane lies inwards
pub before_inwards : (out : Out) (at : ℤ) (p : Spot) → (outward out).forward ≡ true → place out (at -ℤ pos 1) p ≡ inner_cell out at p
before_inwards MinusX at p e = absurd (false≢true e)
before_inwards PlusX at p e = refl
before_inwards MinusY at p e = absurd (false≢true e)
before_inwards PlusY at p e = refl
before_inwards MinusZ at p e = absurd (false≢true e)
before_inwards PlusZ at p e = refl

pub behind_outwards : (out : Out) (at : ℤ) (p : Spot) → (outward out).forward ≡ true → place out at p ≡ outer_cell out at p
behind_outwards MinusX at p e = absurd (false≢true e)
behind_outwards PlusX at p e = refl
behind_outwards MinusY at p e = absurd (false≢true e)
behind_outwards PlusY at p e = refl
behind_outwards MinusZ at p e = absurd (false≢true e)
behind_outwards PlusZ at p e = refl

-- else it lies outwards
pub behind_inwards : (out : Out) (at : ℤ) (p : Spot) → (outward out).forward ≡ false → place out at p ≡ inner_cell out at p
behind_inwards MinusX at p e = refl
behind_inwards PlusX at p e = absurd (false≢true (sym e))
behind_inwards MinusY at p e = refl
behind_inwards PlusY at p e = absurd (false≢true (sym e))
behind_inwards MinusZ at p e = refl
behind_inwards PlusZ at p e = absurd (false≢true (sym e))

pub before_outwards : (out : Out) (at : ℤ) (p : Spot) → (outward out).forward ≡ false → place out (at -ℤ pos 1) p ≡ outer_cell out at p
before_outwards MinusX at p e = refl
before_outwards PlusX at p e = absurd (false≢true (sym e))
before_outwards MinusY at p e = refl
before_outwards PlusY at p e = absurd (false≢true (sym e))
before_outwards MinusZ at p e = refl
before_outwards PlusZ at p e = absurd (false≢true (sym e))
