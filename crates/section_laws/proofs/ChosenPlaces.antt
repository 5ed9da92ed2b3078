-- Chosen grid cells, listed by their places.
use Rattle.std.proofs.Common.{◌≡◌, ◌↔◌, Bool, true, false, ℕ, suc, ◌+◌, ◌<◌, ◌≤◌, List, if◌then◌else◌, refl, ap, sym, subst, ◌∙◌, arith}
use Rattle.lemmas.proofs.Pushed.{HoldsSoFar}
use Rattle.solid_model.specs.declared.cell.Axis.{Axis}
use Rattle.solid_model.specs.declared.cell.Axis.TheVariants.{X, Y, Z}
use Rattle.solid_model.specs.declared.cell.Cell.{Cell}
use Rattle.solid_model.specs.declared.per_axis.PerAxis.{PerAxis}
use Rattle.solid_model.specs.Cells.{cell_at}
use Rattle.solid_model.specs.Grid.{Coordinates, GridCell, gaps_along, grid_cell_place}
use Rattle.solid_model.specs.PerAxis.{numbers_of, cell_of}
use Rattle.solid_model.specs.WalledBoxes.{Sizes, is_within, box_place, box_count, place_of_number}
use Rattle.solid_model.proofs.BoxPlaces.{within_box, one_cell, cell_there, numbers_below}
use Rattle.section_laws.specs.Shaded.{IsNoFarther, ChoosesWhere}

-- ---- ends of rows

-- a number comes between two along a direction exactly where it is none less than the lesser one and none greater than the greater
pub between_ends : (forward : Bool) (first own m : ℕ) → (if forward then first else own) ≤ m → m < suc (if forward then own else first)
    → IsNoFarther forward first m × IsNoFarther forward m own
between_ends true first own m low high = (low, omega arith)
between_ends false first own m low high = (omega arith, low)

pub ends_between : (forward : Bool) (first own m : ℕ) → IsNoFarther forward first m → IsNoFarther forward m own
    → ((if forward then first else own) ≤ m) × (m < suc (if forward then own else first))
ends_between true first own m p q = (p, omega arith)
ends_between false first own m p q = (q, omega arith)

-- a number of either kind is few where both are
pub few_end : (forward : Bool) (x y most : ℕ) → x ≤ most → y ≤ most → (if forward then x else y) ≤ most
few_end true x y most l k = l
few_end false x y most l k = k

pub itself : (n : ℕ) → n ≤ n
itself n = omega arith

pub none_less : (x y m : ℕ) → y ≡ x → x ≤ m → m < y → ⊥
none_less x y m e l k = omega arith

pub below_end : (x y n : ℕ) → y ≡ x → n < y + 1 → n < suc x
below_end x y n e l = omega arith

pub reached : (x y m n : ℕ) → y ≡ x → y + 1 ≤ n → m < suc x → m < n
reached x y m n e l k = omega arith

pub few_below : (y n most : ℕ) → n < y + 1 → y ≤ most → n ≤ most
few_below y n most l k = omega arith

-- ---- places

-- the numbers of a cell of a small box are few
pub few_cell : (sizes : Sizes) (r : PerAxis) → ((a : Axis) → sizes a ≤ 63) → is_within sizes (cell_of r) ≡ true → (a : Axis) → numbers_of r a ≤ 64
few_cell sizes r few within X = let n = numbers_below sizes r within in let f = few X in omega (arith, n.x)
few_cell sizes r few within Y = let n = numbers_below sizes r within in let f = few Y in omega (arith, n.y)
few_cell sizes r few within Z = let n = numbers_below sizes r within in let f = few Z in omega (arith, n.z)

-- the cell of a box that has the numbers of a grid cell
abbrev cell_with : GridCell → Cell
cell_with n = cell_at (n X) (n Y) (n Z)

-- a grid cell whose place is that of a cell has its numbers
same_numbers : (sizes : Sizes) (r : PerAxis) (n : GridCell) → is_within sizes (cell_of r) ≡ true → ((a : Axis) → n a < sizes a) → box_place sizes (cell_of r) ≡ box_place sizes (cell_with n)
    → (a : Axis) → numbers_of r a ≡ n a
same_numbers sizes r n r_in few e a =
    let same : cell_of r ≡ cell_with n = one_cell sizes (cell_of r) (cell_with n) r_in (within_box sizes (n X) (n Y) (n Z) (few X) (few Y) (few Z)) e in
    by same a
  where
    by : cell_of r ≡ cell_with n → (b : Axis) → numbers_of r b ≡ n b
    by same X = ap (λ (c : Cell). place_of_number c.x) same
    by same Y = ap (λ (c : Cell). place_of_number c.y) same
    by same Z = ap (λ (c : Cell). place_of_number c.z) same

-- the value at a place tells whether P holds of the grid cell there
abbrev pub TellsAt : ((Axis → ℕ) → GridCell → Type 0) → Coordinates → ℕ → Bool → Type 0
TellsAt P coordinates p value = (n : GridCell) → ((a : Axis) → n a < gaps_along coordinates a) → grid_cell_place coordinates n ≡ p → (value ≡ true) ↔ P (gaps_along coordinates) n

module _ (P : (Axis → ℕ) → GridCell → Type 0) (coordinates : Coordinates) (sizes : Sizes) (same : sizes ≡ gaps_along coordinates) where
  -- what is told of a cell is told at its place
  pub told_at : (r : PerAxis) (p : ℕ) (value : Bool) → is_within sizes (cell_of r) ≡ true → p ≡ box_place sizes (cell_of r) → (value ≡ true) ↔ P sizes (numbers_of r) → TellsAt P coordinates p value
  told_at r p value within there told n few e =
      let few_too : (a : Axis) → n a < sizes a = λ a. subst (λ (x : Sizes). n a < x a) (sym same) (few a) in
      let place : box_place sizes (cell_of r) ≡ box_place sizes (cell_with n) = sym there ∙ sym e ∙ ap (λ (x : Sizes). box_place x (cell_with n)) (sym same) in
      let numbers = same_numbers sizes r n within few_too place in
      subst (λ (x : Sizes). (value ≡ true) ↔ P x n) same (subst (λ (m : GridCell). (value ≡ true) ↔ P sizes m) (λ t a. numbers a t) told)

  -- where all are told, the list chooses where it holds
  pub all_told : (chosen : List Bool) (count : ℕ) → count ≡ box_count sizes → HoldsSoFar (TellsAt P coordinates) chosen count → ChoosesWhere coordinates (P (gaps_along coordinates)) chosen
  all_told chosen count all so_far n few =
      let whole : count ≡ box_count (gaps_along coordinates) = all ∙ ap box_count same in
      so_far.each (grid_cell_place coordinates n) false (subst (λ k. grid_cell_place coordinates n < k) (sym whole)
      (cell_there (gaps_along coordinates) (cell_with n) (within_box (gaps_along coordinates) (n X) (n Y) (n Z) (few X) (few Y) (few Z)))) n few refl
