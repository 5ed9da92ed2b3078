-- Tests of order on whole numbers.
use Rattle.std.proofs.Common.{◌≡◌, not, ◌&&◌, ◌||◌, ℤ, int_lt, int_le, arith}
use Rattle.std.specs.Int.{int_min, int_max}
use Rattle.std.proofs.lemmas.Int.{ints, clamps}

-- before the lesser of two is before both
pub lt-min : (z a b : ℤ) → int_lt z (int_min a b) ≡ (int_lt z a && int_lt z b)
lt-min z a b = grind (arith, ints, clamps)

-- before the greater of two is before one
pub lt-max : (z a b : ℤ) → int_lt z (int_max a b) ≡ (int_lt z a || int_lt z b)
lt-max z a b = grind (arith, ints, clamps)

-- from the greater of two is from both
pub max-le : (a b z : ℤ) → int_le (int_max a b) z ≡ (int_le a z && not (int_lt z b))
max-le a b z = grind (arith, ints, clamps)

-- from a place is not before it
pub le-not_lt : (a z : ℤ) → int_le a z ≡ not (int_lt z a)
le-not_lt a z = grind (arith, ints)
