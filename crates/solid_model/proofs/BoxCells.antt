-- Boxes of cells: numbers within a size, and cells within a box.
use Rattle.std.proofs.Common.{◌≡◌, ⊎_elim, true, false, ℕ, ◌-◌, ◌<◌, ◌≤◌, ℤ, pos, negsuc, ◌-ℤ◌, ◌≤ℤ◌, ◌<ℤ◌, arith}
use Rattle.std.proofs.lemmas.Bool.{false≢true, and_parts, and_from, and_cases, lt-ltb, ltb-true}
use Rattle.std.proofs.lemmas.Int.{ints}
use Rattle.solid_model.specs.declared.cell.Axis.{Axis}
use Rattle.solid_model.specs.declared.cell.Axis.TheVariants.{X, Y, Z}
use Rattle.solid_model.specs.declared.cell.Cell.{Cell}
use Rattle.solid_model.specs.Cells.{coordinate}
use Rattle.solid_model.specs.WalledBoxes.{Sizes, is_below, is_within, place_of_number}

-- ---- numbers within a size

-- a number of the box stands between its ends
pub below-bounds : (size : ℕ) (z : ℤ) → is_below size z ≡ true → (pos 0 ≤ℤ z) × (z <ℤ pos size)
below-bounds size (pos k) below = let l = ltb-true k size below in (omega (arith, ints), omega (arith, ints))
below-bounds size (negsuc k) below = absurd (false≢true below)

-- and what stands between them is one
pub bounds-below : (size : ℕ) (z : ℤ) → pos 0 ≤ℤ z → z <ℤ pos size → is_below size z ≡ true
bounds-below size (pos k) from to = lt-ltb k size (omega (arith, ints))
bounds-below size (negsuc k) from to = absurd (omega (arith, ints))

-- counted as a place it is less than the size
pub place-below : (size : ℕ) (z : ℤ) → is_below size z ≡ true → place_of_number z < size
place-below size (pos k) below = ltb-true k size below
place-below size (negsuc k) below = absurd (false≢true below)

-- what is within a size is within a greater one
pub below-more : (m n : ℕ) → m ≤ n → (z : ℤ) → is_below m z ≡ true → is_below n z ≡ true
below-more m n l z below = let r = below-bounds m z below in bounds-below n z r.0 (omega (arith, ints, r.1))

-- and so is the number after it
pub below-next : (m n : ℕ) → m ≤ n - 1 → (z : ℤ) → is_below m (z -ℤ pos 1) ≡ true → is_below n z ≡ true
below-next m n l z below = let r = below-bounds m (z -ℤ pos 1) below in bounds-below n z (omega (arith, ints, r.0)) (omega (arith, ints, r.0, r.1))

-- ---- cells within a box

-- a cell of the box has each of its numbers in the box
pub within-below : (sizes : Sizes) (n : Cell) → is_within sizes n ≡ true → (a : Axis) → is_below (sizes a) (coordinate a n) ≡ true
within-below sizes n within X = (and_parts _ _ within).0
within-below sizes n within Y = (and_parts _ _ (and_parts (is_below (sizes X) n.x) _ within).1).0
within-below sizes n within Z = (and_parts _ _ (and_parts (is_below (sizes X) n.x) _ within).1).1

-- the cell whose numbers are is one of the box
pub below-within : (sizes : Sizes) (n : Cell) → ((a : Axis) → is_below (sizes a) (coordinate a n) ≡ true) → is_within sizes n ≡ true
below-within sizes n below = and_from _ _ (below X) (and_from _ _ (below Y) (below Z))

-- and a cell outside has some number that isn't
pub outside-below : (sizes : Sizes) (n : Cell) → is_within sizes n ≡ false → (a : Axis) × (is_below (sizes a) (coordinate a n) ≡ false)
outside-below sizes n out = ⊎_elim {C = Out} (λ e. (X, e))
    (λ rest. ⊎_elim {C = Out} (λ e. (Y, e)) (λ e. (Z, e)) (and_cases (is_below (sizes Y) n.y) _ rest)) (and_cases (is_below (sizes X) n.x) _ out)
  where
    Out : Type 0
    Out = (a : Axis) × (is_below (sizes a) (coordinate a n) ≡ false)
