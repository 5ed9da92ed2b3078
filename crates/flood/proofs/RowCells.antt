-- The cells of rows, and what words tell of them.
use Rattle.std.proofs.Common.{◌≡◌, inl, inr, Bool, true, false, ◌&&◌, ◌==◌, ℕ, zero, suc, ◌+◌, ◌-◌, ◌*◌, ◌/◌, ◌%◌, ◌<◌, ◌≤◌, ℤ, pos, negsuc, ◌-ℤ◌, List, IsTrue, refl, ap, sym, subst, ◌∙◌, arith}
use Rattle.std.proofs.lemmas.Bool.{false≢true, and_parts, lt-ltb, ltb-true, cases_lt, false_from_ne_true}
use Rattle.std.proofs.lemmas.Int.{ints}
use Rattle.std.proofs.lemmas.List.{get_or_past}
use Rattle.std.proofs.lemmas.Nat.{mod-mul-add, div-mul-add, div-add-mod', div_below, mod_below}
use Rattle.std.proofs.lemmas.Nat.Bits.{bit_at-zero}
use Rattle.solid_model.specs.declared.cell.Axis.TheVariants.{X, Y, Z}
use Rattle.solid_model.specs.declared.cell.Cell.{Cell}
use Rattle.solid_model.specs.Cells.{cell_at, cell_before}
use Rattle.solid_model.specs.WalledBoxes.{Sizes, is_below, is_within, place_of_number}
use Rattle.solid_model.proofs.BoxCells.{place-below, within-below, below-bounds}
use Rattle.solid_model.proofs.BoxPlaces.{within_box, number_below, row_there}
use Rattle.lemmas.specs.Bits.{is_set}
use Rattle.lemmas.proofs.FilledWords.{IsFilledBy}
use Rattle.lemmas.proofs.Pushed.{HoldsSoFar}
use Rattle.flood.specs.RowFlood.{has_cell}
use Rattle.flood.specs.RowWords.{row_bit, row_of, AreRowWords}

-- ---- words that are made

-- a word tells of the cells of a row
abbrev pub IsRowWord : Sizes → (Cell → Bool) → ℕ → ℕ → Type 0
IsRowWord sizes holds r word = (k : ℕ) → is_set word k ≡ row_bit sizes holds (r % sizes Y) (r / sizes Y) k

-- with all bits of a row the word does
pub filled_row : (sizes : Sizes) (holds : Cell → Bool) (y z word n : ℕ) → IsFilledBy (row_bit sizes holds y z) word n → n ≡ sizes X
    → (k : ℕ) → is_set word k ≡ row_bit sizes holds y z k
filled_row sizes holds y z word n filled all k = elim (cases_lt k n) as (λ _. is_set word k ≡ row_bit sizes holds y z k) [
  | inl within ↦ filled.below k within
  | inr beyond ↦ filled.above k beyond
      ∙ sym (ap (λ t. t && holds (cell_at k y z)) (false_from_ne_true _ (λ e. let l = ltb-true k (sizes X) e in absurd (omega arith))))
]

-- all words are the rows
pub all_rows : (sizes : Sizes) (holds : Cell → Bool) (words : List ℕ) (n : ℕ) → HoldsSoFar (IsRowWord sizes holds) words n → n ≡ sizes Z * sizes Y
    → AreRowWords sizes holds words
all_rows sizes holds words n so_far all = record {
  listed = so_far.count ∙ all;
  each = λ r l k. so_far.each r 0 (subst (λ m. r < m) (sym all) l) k;
}

-- ---- the cells of rows

-- where there is a row, a layer has one
pub some_row : (r layers rows : ℕ) → r < layers * rows → 0 < rows
some_row r layers zero l = absurd (omega arith)
some_row r layers (suc rows) l = omega arith

-- the cell of a number of a row
abbrev pub row_cell : Sizes → ℕ × ℕ → Cell
row_cell sizes p = cell_at p.1 (p.0 % sizes Y) (p.0 / sizes Y)

-- and the row and number of a cell
abbrev pub place_in_rows : Sizes → Cell → ℕ × ℕ
place_in_rows sizes n = (row_of sizes n, place_of_number n.x)

-- a number of the box is its place
number_place : (size : ℕ) (z : ℤ) → is_below size z ≡ true → pos (place_of_number z) ≡ z
number_place size (pos k) below = refl
number_place size (negsuc k) below = absurd (false≢true below)

module _ (sizes : Sizes) where
  -- a cell of the box stands in one of the rows,
  pub row_within : (n : Cell) → is_within sizes n ≡ true → row_of sizes n < sizes Z * sizes Y
  row_within n within = row_there sizes (place_of_number n.x) (place_of_number n.y) (place_of_number n.z)
      (place-below (sizes X) n.x (within-below sizes n within X)) (place-below (sizes Y) n.y (within-below sizes n within Y))
      (place-below (sizes Z) n.z (within-below sizes n within Z))

  -- and is the cell of its number there
  pub own_row_cell : (n : Cell) → is_within sizes n ≡ true → row_cell sizes (place_in_rows sizes n) ≡ n
  own_row_cell n within =
      let y_less = place-below (sizes Y) n.y (within-below sizes n within Y) in
      let x = number_place (sizes X) n.x (within-below sizes n within X) in
      let y = ap pos (mod-mul-add (place_of_number n.z) (sizes Y) (place_of_number n.y) y_less) ∙ number_place (sizes Y) n.y (within-below sizes n within Y) in
      let z = ap pos (div-mul-add (place_of_number n.z) (sizes Y) (place_of_number n.y) y_less) ∙ number_place (sizes Z) n.z (within-below sizes n within Z) in
      λ t. record { x = x t; y = y t; z = z t }

  module _ (holds : Cell → Bool) (words : List ℕ) (are : AreRowWords sizes holds words) where
    -- a bit tells of the cell,
    pub cell_told : (n : Cell) → is_within sizes n ≡ true → has_cell words (row_of sizes n) (place_of_number n.x) ≡ holds n
    cell_told n within =
        are.each (row_of sizes n) (row_within n within) (place_of_number n.x)
        ∙ ap (λ t. t && holds (row_cell sizes (place_in_rows sizes n))) (lt-ltb _ _ (place-below (sizes X) n.x (within-below sizes n within X)))
        ∙ ap holds (own_row_cell n within)

    -- and one that is set is that of a cell of the box of which it is true
    pub told_cell : (p : ℕ × ℕ) → has_cell words p.0 p.1 ≡ true → IsTrue (is_within sizes (row_cell sizes p)) × IsTrue (holds (row_cell sizes p))
    told_cell p has = elim (cases_lt p.0 (sizes Z * sizes Y)) as (λ _. IsTrue (is_within sizes (row_cell sizes p)) × IsTrue (holds (row_cell sizes p))) [
      | inl within ↦ (let both = and_parts _ _ (sym (are.each p.0 within p.1) ∙ has) in
          let some = some_row p.0 (sizes Z) (sizes Y) within in (
            within_box sizes p.1 (p.0 % sizes Y) (p.0 / sizes Y) (ltb-true p.1 (sizes X) both.0)
                (mod_below p.0 (sizes Y) some) (div_below p.0 (sizes Y) (sizes Z) some within),
            both.1,
          ))
      | inr past ↦ (let none : has_cell words p.0 p.1 ≡ false = ap (λ n. is_set n p.1) (get_or_past words p.0 0 (subst (λ m. m ≤ p.0) (sym are.listed) past)) ∙ ap (λ b. b == 1) (bit_at-zero p.1) in
          absurd (false≢true (sym none ∙ has)))
    ]

  -- ---- the cell before one, along each axis

  pub before_along : (r k : ℕ) → row_cell sizes (r, k) ≡ cell_before X (row_cell sizes (r, suc k))
  before_along r k = let e : pos k ≡ pos (suc k) -ℤ pos 1 = omega (arith, ints) in
      λ t. record { x = e t; y = pos (r % sizes Y); z = pos (r / sizes Y) }

  pub before_beside : (r k : ℕ) → is_within sizes (cell_before Y (row_cell sizes (r + 1, k))) ≡ true → 0 < sizes Y
      → row_cell sizes (r, k) ≡ cell_before Y (row_cell sizes (r + 1, k))
  before_beside r k within some =
      let m = (r + 1) % sizes Y in let q = (r + 1) / sizes Y in
      let bounds = below-bounds (sizes Y) (pos m -ℤ pos 1) (within-below sizes (cell_before Y (row_cell sizes (r + 1, k))) within Y) in
      let less = mod_below (r + 1) (sizes Y) some in
      let from : 1 ≤ m = omega (arith, ints, bounds.0) in
      let is : r ≡ q * sizes Y + (m - 1) = omega (arith, from, div-add-mod' (r + 1) (sizes Y)) in
      let l : m - 1 < sizes Y = omega arith in
      let y : pos (r % sizes Y) ≡ pos m -ℤ pos 1 = ap (λ n. pos (n % sizes Y)) is ∙ ap pos (mod-mul-add q (sizes Y) (m - 1) l) ∙ omega (arith, ints, from) in
      let z : pos (r / sizes Y) ≡ pos q = ap (λ n. pos (n / sizes Y)) is ∙ ap pos (div-mul-add q (sizes Y) (m - 1) l) in
      λ t. record { x = pos k; y = y t; z = z t }

  pub before_behind : (r k : ℕ) → 0 < sizes Y → row_cell sizes (r, k) ≡ cell_before Z (row_cell sizes (r + sizes Y, k))
  before_behind r k some =
      let m = r % sizes Y in let q = r / sizes Y in
      let less = mod_below r (sizes Y) some in
      let whole = div-add-mod' r (sizes Y) in
      let is : r + sizes Y ≡ suc q * sizes Y + m = omega (arith, whole) in
      let y : pos m ≡ pos ((r + sizes Y) % sizes Y) = sym (ap (λ n. pos (n % sizes Y)) is ∙ ap pos (mod-mul-add (suc q) (sizes Y) m less)) in
      let up : (r + sizes Y) / sizes Y ≡ suc q = ap (λ n. n / sizes Y) is ∙ div-mul-add (suc q) (sizes Y) m less in
      let z : pos q ≡ pos ((r + sizes Y) / sizes Y) -ℤ pos 1 = omega (arith, ints, up) in
      λ t. record { x = pos k; y = y t; z = z t }

  -- ---- and its place

  place_before : (size : ℕ) (z : ℤ) → is_below size (z -ℤ pos 1) ≡ true → place_of_number z ≡ place_of_number (z -ℤ pos 1) + 1
  place_before size z below =
      let number = number_below size (z -ℤ pos 1) below in
      let is : z ≡ pos (suc number.number) = omega (arith, ints, number.is) in
      let before : place_of_number (z -ℤ pos 1) ≡ number.number = ap place_of_number number.is in
      ap place_of_number is ∙ omega (arith, before)

  pub place_along : (n : Cell) → is_within sizes (cell_before X n) ≡ true
      → place_in_rows sizes n ≡ (row_of sizes (cell_before X n), suc (place_of_number (n.x -ℤ pos 1)))
  place_along n within =
      let e : place_of_number n.x ≡ suc (place_of_number (n.x -ℤ pos 1)) = place_before (sizes X) n.x (within-below sizes (cell_before X n) within X) ∙ omega arith in
      ap (λ k. (row_of sizes n, k)) e

  pub place_beside : (n : Cell) → is_within sizes (cell_before Y n) ≡ true
      → place_in_rows sizes n ≡ (row_of sizes (cell_before Y n) + 1, place_of_number n.x)
  place_beside n within =
      let e = place_before (sizes Y) n.y (within-below sizes (cell_before Y n) within Y) in
      let row : row_of sizes n ≡ row_of sizes (cell_before Y n) + 1 = omega (arith, e) in
      ap (λ r. (r, place_of_number n.x)) row

  pub place_behind : (n : Cell) → is_within sizes (cell_before Z n) ≡ true
      → place_in_rows sizes n ≡ (row_of sizes (cell_before Z n) + sizes Y, place_of_number n.x)
  place_behind n within =
      let e = place_before (sizes Z) n.z (within-below sizes (cell_before Z n) within Z) in
      let more : (j : ℕ) → (j + 1) * sizes Y + place_of_number n.y ≡ j * sizes Y + place_of_number n.y + sizes Y = λ j. omega arith in
      let row : row_of sizes n ≡ row_of sizes (cell_before Z n) + sizes Y =
      ap (λ j. j * sizes Y + place_of_number n.y) e ∙ more (place_of_number (n.z -ℤ pos 1)) in
      ap (λ r. (r, place_of_number n.x)) row
