-- Where the spots of a plane stand in space.
use Rattle.std.proofs.Common.{◌≡◌, inl, inr, ℤ, pos, ◌-ℤ◌, ◌<ℤ◌, refl, ap, arith}
use Rattle.std.proofs.lemmas.Int.{ints}
use Rattle.solid_model.specs.declared.cell.Cell.{Cell}
use Rattle.solid_model.specs.declared.face.Out.{Out}
use Rattle.solid_model.specs.declared.face.Out.TheVariants.{MinusX, PlusX, MinusY, PlusY, MinusZ, PlusZ}
use Rattle.solid_model.specs.Faces.{place}
use Rattle.solid_model.specs.Orders.{ComesBefore}
use Rattle.solid_model.specs.Rounds.{Spot, West, South, spot_after}
use Rattle.solid_model.proofs.CellOrder.{lies-before}
use Rattle.face_laws.proofs.LeastSides.{KeepsOrder}
use Rattle.face_laws.proofs.Turns.{same_spot}

less : (z : ℤ) → (z -ℤ pos 1) <ℤ z
less z = omega (arith, ints)

-- a step to the left leads to an earlier point
left_before : (out : Out) (at : ℤ) (p : Spot) → ComesBefore (place out at (spot_after West p)) (place out at p)
left_before MinusX at p = lies-before (place MinusX at (spot_after West p)) (place MinusX at p) (inl (less p.u))
left_before PlusX at p = lies-before (place PlusX at (spot_after West p)) (place PlusX at p) (inr (refl, inl (less p.u)))
left_before MinusY at p = lies-before (place MinusY at (spot_after West p)) (place MinusY at p) (inr (refl, inr (refl, less p.u)))
left_before PlusY at p = lies-before (place PlusY at (spot_after West p)) (place PlusY at p) (inl (less p.u))
left_before MinusZ at p = lies-before (place MinusZ at (spot_after West p)) (place MinusZ at p) (inr (refl, inl (less p.u)))
left_before PlusZ at p = lies-before (place PlusZ at (spot_after West p)) (place PlusZ at p) (inr (refl, inr (refl, less p.u)))

-- and so does a step downwards
below_before : (out : Out) (at : ℤ) (p : Spot) → ComesBefore (place out at (spot_after South p)) (place out at p)
below_before MinusX at p = lies-before (place MinusX at (spot_after South p)) (place MinusX at p) (inr (refl, inl (less p.v)))
below_before PlusX at p = lies-before (place PlusX at (spot_after South p)) (place PlusX at p) (inl (less p.v))
below_before MinusY at p = lies-before (place MinusY at (spot_after South p)) (place MinusY at p) (inl (less p.v))
below_before PlusY at p = lies-before (place PlusY at (spot_after South p)) (place PlusY at p) (inr (refl, inr (refl, less p.v)))
below_before MinusZ at p = lies-before (place MinusZ at (spot_after South p)) (place MinusZ at p)
    (inr (refl, inr (refl, less p.v)))
below_before PlusZ at p = lies-before (place PlusZ at (spot_after South p)) (place PlusZ at p) (inr (refl, inl (less p.v)))

-- no two spots stand in one place
one_place : (out : Out) (at : ℤ) (p q : Spot) → place out at p ≡ place out at q → p ≡ q
one_place MinusX at p q e = same_spot p q (ap (λ (c : Cell). c.z) e) (ap (λ (c : Cell). c.y) e)
one_place PlusX at p q e = same_spot p q (ap (λ (c : Cell). c.y) e) (ap (λ (c : Cell). c.z) e)
one_place MinusY at p q e = same_spot p q (ap (λ (c : Cell). c.x) e) (ap (λ (c : Cell). c.z) e)
one_place PlusY at p q e = same_spot p q (ap (λ (c : Cell). c.z) e) (ap (λ (c : Cell). c.x) e)
one_place MinusZ at p q e = same_spot p q (ap (λ (c : Cell). c.y) e) (ap (λ (c : Cell). c.x) e)
one_place PlusZ at p q e = same_spot p q (ap (λ (c : Cell). c.x) e) (ap (λ (c : Cell). c.y) e)

-- so the spots of a plane keep the order of points
pub place_keeps : (out : Out) (at : ℤ) → KeepsOrder (place out at)
place_keeps out at = record { left = left_before out at; below = below_before out at; one = one_place out at }
