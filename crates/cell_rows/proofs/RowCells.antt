-- The cells of rows.
use Rattle.std.proofs.Common.{◌≡◌, Bool, true, false, ◌&&◌, ℕ, ◌+◌, ◌*◌, ◌<◌, ◌≤◌, List, slice_index_or, ℤ, pos, refl, ap, sym, subst, ◌∙◌, arith}
use Rattle.std.proofs.lemmas.Bool.{false_from_ne_true, both_ways, and_parts}
use Rattle.solid_model.specs.declared.cell.Axis.{Axis}
use Rattle.solid_model.specs.declared.cell.Axis.TheVariants.{X, Y, Z}
use Rattle.solid_model.specs.declared.per_axis.PerAxis.{PerAxis}
use Rattle.lemmas.specs.Bits.{is_set}
use Rattle.solid_model.specs.declared.cell.Cell.{Cell}
use Rattle.solid_model.specs.Cells.{coordinate, placed, cell_at}
use Rattle.solid_model.specs.Marks.{BoxMarks, is_marked}
use Rattle.solid_model.specs.PerAxis.{numbers_of, cell_of, numbered, AreFew}
use Rattle.solid_model.specs.WalledBoxes.{Sizes, is_below, is_within, box_place, box_count}
use Rattle.solid_model.proofs.BoxCells.{place-below, within-below, below-within}
use Rattle.solid_model.proofs.BoxPlaces.{below_number, one_cell, cell_there}
use Rattle.lemmas.proofs.Pushed.{HoldsSoFar}
use Rattle.cell_rows.specs.Rows.{cell_numbered, is_marked_at, stride_along, row_sizes, AreRows}

-- numbers with another one along an axis are those of the cell
pub numbered_cell : (a : Axis) (k : ℕ) (n r : PerAxis) → numbers_of r ≡ numbered a k (numbers_of n) → cell_of r ≡ cell_numbered a k n
numbered_cell X k n r e = ap (λ (f : Axis → ℕ). cell_at (f X) (f Y) (f Z)) e
numbered_cell Y k n r e = ap (λ (f : Axis → ℕ). cell_at (f X) (f Y) (f Z)) e
numbered_cell Z k n r e = ap (λ (f : Axis → ℕ). cell_at (f X) (f Y) (f Z)) e

-- which has that number along it
pub coordinate_numbered : (a : Axis) (k : ℕ) (n : PerAxis) → coordinate a (cell_numbered a k n) ≡ pos k
coordinate_numbered X k n = refl
coordinate_numbered Y k n = refl
coordinate_numbered Z k n = refl

-- so cells beyond a row have no marks
pub none_beyond : (m : BoxMarks) (a : Axis) (n : PerAxis) (k : ℕ) → numbers_of m.sizes a ≤ k → is_marked_at m a n k ≡ false
none_beyond m a n k beyond = false_from_ne_true (is_marked_at m a n k) (λ marked.
    let sizes = numbers_of m.sizes in
    let within = (and_parts (is_within sizes (cell_numbered a k n)) (slice_index_or m.values (box_place sizes (cell_numbered a k n)) false) marked).0 in
    let below = subst (λ z. is_below (sizes a) z ≡ true) (coordinate_numbered a k n) (within-below sizes (cell_numbered a k n) within a) in
    let less = place-below (sizes a) (pos k) below in
    omega arith)

-- ---- places along a row

-- the first cell of a row stands in the box where another one does
pub within_first : (sizes : Sizes) (a : Axis) (k : ℕ) (n : PerAxis) → is_within sizes (cell_numbered a k n) ≡ true
    → is_within sizes (cell_numbered a 0 n) ≡ true
within_first sizes a k n within = below-within sizes (cell_numbered a 0 n) (by a (within-below sizes (cell_numbered a k n) within))
  where
    first : (size : ℕ) → is_below size (pos k) ≡ true → is_below size (pos 0) ≡ true
    first size below = let l = place-below size (pos k) below in below_number size 0 (omega arith)

    by : (a : Axis) → ((b : Axis) → is_below (sizes b) (coordinate b (cell_numbered a k n)) ≡ true)
        → (b : Axis) → is_below (sizes b) (coordinate b (cell_numbered a 0 n)) ≡ true
    by X h X = first (sizes X) (h X)
    by X h Y = h Y
    by X h Z = h Z
    by Y h X = h X
    by Y h Y = first (sizes Y) (h Y)
    by Y h Z = h Z
    by Z h X = h X
    by Z h Y = h Y
    by Z h Z = first (sizes Z) (h Z)

-- so where it doesn't none has a mark
pub none_outside : (m : BoxMarks) (a : Axis) (n : PerAxis) → is_within (numbers_of m.sizes) (cell_numbered a 0 n) ≡ false
    → (k : ℕ) → is_marked_at m a n k ≡ false
none_outside m a n none k = false_from_ne_true (is_marked_at m a n k) (λ marked.
    let sizes = numbers_of m.sizes in
    let within = (and_parts (is_within sizes (cell_numbered a k n)) (slice_index_or m.values (box_place sizes (cell_numbered a k n)) false) marked).0 in
    both_ways (is_within sizes (cell_numbered a 0 n)) none (within_first sizes a k n within))

-- and all cells of its row stand there too,
pub within_along : (sizes : Sizes) (a : Axis) (k : ℕ) (n : PerAxis) → is_within sizes (cell_numbered a 0 n) ≡ true → k < sizes a
    → is_within sizes (cell_numbered a k n) ≡ true
within_along sizes a k n within l = below-within sizes (cell_numbered a k n) (by a l (within-below sizes (cell_numbered a 0 n) within))
  where
    by : (a : Axis) → k < sizes a → ((b : Axis) → is_below (sizes b) (coordinate b (cell_numbered a 0 n)) ≡ true)
        → (b : Axis) → is_below (sizes b) (coordinate b (cell_numbered a k n)) ≡ true
    by X m h X = below_number (sizes X) k m
    by X m h Y = h Y
    by X m h Z = h Z
    by Y m h X = h X
    by Y m h Y = below_number (sizes Y) k m
    by Y m h Z = h Z
    by Z m h X = h X
    by Z m h Y = h Y
    by Z m h Z = below_number (sizes Z) k m

-- a stride apart
pub place_along : (sizes : Sizes) (a : Axis) (k : ℕ) (n : PerAxis)
    → box_place sizes (cell_numbered a 0 n) + k * stride_along sizes a ≡ box_place sizes (cell_numbered a k n)
place_along sizes X k n = omega arith
place_along sizes Y k n = sym (mul_in (n.z * sizes Y) k (sizes X) n.x)
  where
    mul_in : (a k s x : ℕ) → (a + k) * s + x ≡ (a + 0) * s + x + k * s
    mul_in a k s x = omega arith
place_along sizes Z k n = sym (mul_in k n.y (sizes Y) (sizes X) n.x)
  where
    mul_in : (k y h s x : ℕ) → (k * h + y) * s + x ≡ (0 * h + y) * s + x + k * (h * s)
    mul_in k y h s x = omega arith

-- the value at such a place tells whether the cell has a mark
pub mark_along : (m : BoxMarks) (a : Axis) (k : ℕ) (n first : PerAxis) (start stride : ℕ) → cell_of first ≡ cell_numbered a 0 n
    → is_within (numbers_of m.sizes) (cell_of first) ≡ true → k < numbers_of m.sizes a → start ≡ box_place (numbers_of m.sizes) (cell_of first)
    → stride ≡ stride_along (numbers_of m.sizes) a → (start + k * stride < box_count (numbers_of m.sizes))
    × (slice_index_or m.values (start + k * stride) false ≡ is_marked_at m a n k)
mark_along m a k n first start stride at within l begins apart =
    let sizes = numbers_of m.sizes in
    let here = within_along sizes a k n (ap (is_within sizes) (sym at) ∙ within) l in
    let place : start + k * stride ≡ box_place sizes (cell_numbered a k n) =
    (λ i. (begins ∙ ap (box_place sizes) at) i + k * apart i) ∙ place_along sizes a k n in (
      subst (λ p. p < box_count sizes) (sym place) (cell_there sizes (cell_numbered a k n) here),
      ap (λ p. slice_index_or m.values p false) place
          ∙ ap (λ b. b && slice_index_or m.values (box_place sizes (cell_numbered a k n)) false) (sym here),
    )

-- ---- rows

-- a box with one cell along an axis is small too
pub few_rows : (sizes : Sizes) (a : Axis) → AreFew sizes → AreFew (numbered a 1 sizes)
few_rows sizes X few X = omega arith
few_rows sizes X few Y = few Y
few_rows sizes X few Z = few Z
few_rows sizes Y few X = few X
few_rows sizes Y few Y = omega arith
few_rows sizes Y few Z = few Z
few_rows sizes Z few X = few X
few_rows sizes Z few Y = few Y
few_rows sizes Z few Z = omega arith

-- where the box has a cell, it has the row along an axis in which the cell stands
pub row_within : (sizes : Sizes) (a : Axis) (z : ℤ) (c : Cell) → is_within sizes (placed a z c) ≡ true
    → is_within (numbered a 1 sizes) (placed a (pos 0) c) ≡ true
row_within sizes a z c within = below-within (numbered a 1 sizes) (placed a (pos 0) c) (by a (within-below sizes (placed a z c) within))
  where
    by : (a : Axis) → ((b : Axis) → is_below (sizes b) (coordinate b (placed a z c)) ≡ true)
        → (b : Axis) → is_below (numbered a 1 sizes b) (coordinate b (placed a (pos 0) c)) ≡ true
    by X h X = refl
    by X h Y = h Y
    by X h Z = h Z
    by Y h X = h X
    by Y h Y = refl
    by Y h Z = h Z
    by Z h X = h X
    by Z h Y = h Y
    by Z h Z = refl

pub within_row : (sizes : Sizes) (a : Axis) (k : ℕ) (n : PerAxis) → is_within sizes (cell_numbered a k n) ≡ true
    → is_within (numbered a 1 sizes) (cell_numbered a 0 n) ≡ true
within_row sizes X k n within = row_within sizes X (pos k) (cell_of n) within
within_row sizes Y k n within = row_within sizes Y (pos k) (cell_of n) within
within_row sizes Z k n within = row_within sizes Z (pos k) (cell_of n) within

-- so where there is no row there is no mark
pub none_without_row : (m : BoxMarks) (a : Axis) (n : PerAxis) → is_within (row_sizes m a) (cell_numbered a 0 n) ≡ false
    → (k : ℕ) → is_marked_at m a n k ≡ false
none_without_row m a n none k = false_from_ne_true (is_marked_at m a n k) (λ marked.
    let sizes = numbers_of m.sizes in
    let within = (and_parts (is_within sizes (cell_numbered a k n)) (slice_index_or m.values (box_place sizes (cell_numbered a k n)) false) marked).0 in
    both_ways (is_within (row_sizes m a) (cell_numbered a 0 n)) none (within_row sizes a k n within))

-- cells of one row
same_row : (a : Axis) (k : ℕ) (c n : PerAxis) → cell_of c ≡ cell_numbered a 0 n → cell_numbered a k c ≡ cell_numbered a k n
same_row X k c n e = λ i. record { x = pos k; y = (e i).y; z = (e i).z }
same_row Y k c n e = λ i. record { x = (e i).x; y = pos k; z = (e i).z }
same_row Z k c n e = λ i. record { x = (e i).x; y = (e i).y; z = pos k }

-- the bits at the place of a row tell its cells
abbrev pub AreBitsAt : BoxMarks → Axis → ℕ → (ℕ → Bool) → Type 0
AreBitsAt m a place bits = (n : PerAxis) → is_within (row_sizes m a) (cell_numbered a 0 n) ≡ true
    → box_place (row_sizes m a) (cell_numbered a 0 n) ≡ place → (k : ℕ) → k < 64 → bits k ≡ is_marked_at m a n k

-- they are those of a word
abbrev pub IsRowAt : BoxMarks → Axis → ℕ → ℕ → Type 0
IsRowAt m a place word = AreBitsAt m a place (is_set word)

pub row_at : (m : BoxMarks) (a : Axis) (sizes : Sizes) (place : ℕ) (bits : ℕ → Bool) (c : PerAxis) → sizes ≡ row_sizes m a
    → place ≡ box_place sizes (cell_of c) → is_within sizes (cell_of c) ≡ true → ((k : ℕ) → k < 64 → bits k ≡ is_marked_at m a c k)
    → AreBitsAt m a place bits
row_at m a sizes place bits c same at within row n n_within n_at k l =
    let here = subst (λ s. is_within s (cell_of c) ≡ true) same within in
    let there = subst (λ s. place ≡ box_place s (cell_of c)) same at in
    let one = one_cell (row_sizes m a) (cell_of c) (cell_numbered a 0 n) here n_within (sym there ∙ sym n_at) in
    row k l ∙ ap (is_marked m) (same_row a k c n one)

-- all of them
pub all_rows : (m : BoxMarks) (a : Axis) (rows : List ℕ) (count : ℕ) → HoldsSoFar (IsRowAt m a) rows count → count ≡ box_count (row_sizes m a)
    → AreRows m a rows
all_rows m a rows count held all = record {
  listed = held.count ∙ all;
  each = λ n within k l.
      held.each (box_place (row_sizes m a) (cell_numbered a 0 n)) 0
      (subst (λ c. box_place (row_sizes m a) (cell_numbered a 0 n) < c) (sym all) (cell_there (row_sizes m a) (cell_numbered a 0 n) within))
      n within refl k l;
}
