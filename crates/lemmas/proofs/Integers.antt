-- Facts of whole numbers.
use Rattle.std.proofs.Common.{◌≡◌, ℕ, ℤ, pos, negsuc, ◌+ℤ◌, ◌-ℤ◌, ◌≤ℤ◌, refl, arith}
use Rattle.std.proofs.lemmas.Int.{ints}

-- an integer that isn't negative is a natural number
pub natural : (z : ℤ) → pos 0 ≤ℤ z → (n : ℕ) × (pos n ≡ z)
natural (pos n) h = (n, refl)
natural (negsuc n) h = absurd (omega (arith, ints))

-- one more and one less, in either order
pub up_and_down : (z : ℤ) → (z +ℤ pos 1) -ℤ pos 1 ≡ z
up_and_down z = omega (arith, ints)

pub down_and_up : (z : ℤ) → (z -ℤ pos 1) +ℤ pos 1 ≡ z
down_and_up z = omega (arith, ints)
