-- Numbers along the axes, and the cells with these numbers.
use Rattle.std.proofs.Common.{◌≡◌, ℕ, ◌+◌, pos, ◌+ℤ◌, ◌-ℤ◌, refl, ap, ◌∙◌, arith}
use Rattle.std.proofs.lemmas.Int.{ints}
use Rattle.solid_model.specs.declared.cell.Axis.{Axis}
use Rattle.solid_model.specs.declared.cell.Axis.TheVariants.{X, Y, Z}
use Rattle.solid_model.specs.declared.per_axis.PerAxis.{PerAxis}
use Rattle.solid_model.specs.Cells.{coordinate, cell_at, placed, cell_before, cell_after}
use Rattle.solid_model.specs.PerAxis.{numbers_of, cell_of, numbered}

-- a cell's coordinate is its number
pub coordinate-cell_of : (a : Axis) (p : PerAxis) → coordinate a (cell_of p) ≡ pos (numbers_of p a)
coordinate-cell_of X p = refl
coordinate-cell_of Y p = refl
coordinate-cell_of Z p = refl

-- with another number it is the cell with another coordinate
pub cell_numbered : (p q : PerAxis) (a : Axis) (k : ℕ) → numbers_of q ≡ numbered a k (numbers_of p) → cell_of q ≡ placed a (pos k) (cell_of p)
cell_numbered p q a k e = (λ t. cell_at (e t X) (e t Y) (e t Z)) ∙ by a
  where
    by : (b : Axis) → cell_at (numbered b k (numbers_of p) X) (numbered b k (numbers_of p) Y) (numbered b k (numbers_of p) Z) ≡ placed b (pos k) (cell_of p)
    by X = refl
    by Y = refl
    by Z = refl

-- with the next number it is the next cell
pub cell_with_next : (p q : PerAxis) (a : Axis) (k : ℕ) → k ≡ numbers_of p a → numbers_of q ≡ numbered a (k + 1) (numbers_of p) → cell_of q ≡ cell_after a (cell_of p)
cell_with_next p q a k is e =
    let next : pos (k + 1) ≡ coordinate a (cell_of p) +ℤ pos 1 = omega (arith, ints, is, coordinate-cell_of a p) in
    cell_numbered p q a (k + 1) e ∙ ap (λ z. placed a z (cell_of p)) next

-- and with the number before it is the cell before
pub cell_with_earlier : (p q : PerAxis) (a : Axis) (k : ℕ) → k + 1 ≡ numbers_of p a → numbers_of q ≡ numbered a k (numbers_of p) → cell_of q ≡ cell_before a (cell_of p)
cell_with_earlier p q a k is e =
    let earlier : pos k ≡ coordinate a (cell_of p) -ℤ pos 1 = omega (arith, ints, is, coordinate-cell_of a p) in
    cell_numbered p q a k e ∙ ap (λ z. placed a z (cell_of p)) earlier
