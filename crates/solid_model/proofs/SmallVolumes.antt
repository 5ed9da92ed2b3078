-- Volumes are small: how far the coordinates of a grid are apart, and how much the volumes of its cells come to.
use Rattle.std.proofs.Common.{◌≡◌, inl, inr, Bool, true, false, if◌then◌else◌, ℕ, zero, suc, ◌+◌, ◌*◌, ◌≤◌, List, [], ◌∷◌, slice_index_or, ℤ, pos, negsuc, neg_ℤ, ◌-ℤ◌, ◌≤ℤ◌, unsigned_abs, refl, ap, sym, ◌∙◌, arith}
use Rattle.std.proofs.lemmas.Int.{ints}
use Rattle.std.proofs.lemmas.Nat.{mul-le}
use Rattle.solid_model.specs.declared.cell.Axis.{Axis}
use Rattle.solid_model.specs.declared.cell.Axis.TheVariants.{X, Y, Z}
use Rattle.solid_model.specs.declared.per_axis.PerAxis.{PerAxis}
use Rattle.solid_model.specs.Grid.{Coordinates, gaps_along}
use Rattle.lemmas.specs.Lists.{Member}
use Rattle.solid_model.specs.Panels.{GridParts, IsGrid, coordinates_of}
use Rattle.solid_model.specs.PerAxis.{numbers_of, cell_of}
use Rattle.solid_model.specs.WalledBoxes.{Sizes, is_within, box_place, box_count}
use Rattle.solid_model.specs.Volumes.{gap_width, grid_cell_volume, grid_cell_at, volume_below}
use Rattle.solid_model.specs.GridBox.{grid_cell_of}
use Rattle.solid_model.proofs.BoxPlaces.{cell_of_place, cell_of_place-own}
use Rattle.solid_model.proofs.Gaps.{member}
use Rattle.solid_model.proofs.SomeGrid.{coordinate_near}

-- ---- widths

-- from where to where the coordinates of a grid lie
abbrev LiesNear : ℤ → Type 0
LiesNear z = (pos 0 ≤ℤ z) × (z ≤ℤ pos 2000000000)

-- what is read of such coordinates lies there, past their end too
read_near : (zs : List ℤ) → ((z : ℤ) → Member zs z → LiesNear z) → (n : ℕ) → LiesNear (slice_index_or zs n (pos 0))
read_near [] near n = (omega (arith, ints), omega (arith, ints))
read_near (z ∷ zs) near zero = near z (inl refl)
read_near (z ∷ zs) near (suc n) = read_near zs (λ y m. near y (inr m)) n

-- an integer between these two has this absolute value at most
abs_at_most : (z : ℤ) (n : ℕ) → neg_ℤ (pos n) ≤ℤ z → z ≤ℤ pos n → unsigned_abs z ≤ n
abs_at_most (pos a) n low high = omega (arith, ints)
abs_at_most (negsuc a) n low high = omega (arith, ints)

-- no gap of a grid is wider than 2,000,000,000
pub width_small : (g : GridParts) → IsGrid g → (a : Axis) (n : ℕ) → gap_width (coordinates_of g a) n ≤ 2000000000
width_small g is a n =
    let near : (z : ℤ) → Member (coordinates_of g a) z → LiesNear z = λ z m. coordinate_near is.0 is.1 a z (((is.2.coordinates a).exact z).0 m) in
    let low = read_near (coordinates_of g a) near n in
    let high = read_near (coordinates_of g a) near (n + 1) in
    abs_at_most (member (coordinates_of g a) (n + 1) -ℤ member (coordinates_of g a) n) 2000000000
    (omega (arith, ints, low, high)) (omega (arith, ints, low, high))

-- ---- volumes

-- the greatest volume of a grid cell
abbrev pub most_volume : ℕ
most_volume = 8000000000000000000000000000

-- where no more than 63 stand in a row, there are no more than 250,047
pub count_small : (sizes : Sizes) → ((a : Axis) → sizes a ≤ 63) → box_count sizes ≤ 250047
count_small sizes few = mul-le (sizes Z * sizes Y) (sizes X) 3969 63 (mul-le (sizes Z) (sizes Y) 63 63 (few Z) (few Y)) (few X)

-- a grid cell has the volume of that at its place
pub volume_at_place : (coordinates : Coordinates) (sizes : Sizes) (cell : PerAxis) (p : ℕ) → sizes ≡ gaps_along coordinates
    → is_within sizes (cell_of cell) ≡ true → p ≡ box_place sizes (cell_of cell)
    → grid_cell_volume coordinates (numbers_of cell) ≡ grid_cell_volume coordinates (grid_cell_at coordinates p)
volume_at_place coordinates sizes cell p are within there =
    let own : cell_of cell ≡ cell_of_place (gaps_along coordinates) p =
    sym (cell_of_place-own sizes (cell_of cell) within) ∙ (λ t. cell_of_place (are t) (sym there t)) in
    ap (λ c. grid_cell_volume coordinates (grid_cell_of c)) own

-- ---- adding volumes

-- this is the volume of those of the first grid cells that are chosen
pub record IsVolumeBelow (coordinates : Coordinates) (chosen : List Bool) (p volume : ℕ) : Type 0 where
  pub is : volume ≡ volume_below coordinates chosen p
  pub small : volume ≤ p * most_volume

-- one more place
volume_next : (coordinates : Coordinates) (chosen : List Bool) (p : ℕ) (t : Bool) → slice_index_or chosen p false ≡ t
    → volume_below coordinates chosen (p + 1)
    ≡ volume_below coordinates chosen p + (if t then grid_cell_volume coordinates (grid_cell_at coordinates p) else 0)
volume_next coordinates chosen p t e =
    let next : p + 1 ≡ suc p = omega arith in
    ap (volume_below coordinates chosen) next
    ∙ ap (λ (u : Bool). volume_below coordinates chosen p + (if u then grid_cell_volume coordinates (grid_cell_at coordinates p) else 0)) e

module _ (coordinates : Coordinates) (chosen : List Bool) (p volume : ℕ) (so_far : IsVolumeBelow coordinates chosen p volume) where
  -- with a chosen one more,
  pub with_chosen : (more : ℕ) → slice_index_or chosen p false ≡ true
      → more ≡ grid_cell_volume coordinates (grid_cell_at coordinates p) → more ≤ most_volume
      → IsVolumeBelow coordinates chosen (p + 1) (volume + more)
  with_chosen more is_chosen e small =
      let next = volume_next coordinates chosen p true is_chosen in
      record { is = omega (arith, next, so_far.is, e); small = omega (arith, so_far.small, small) }

  -- and with one that isn't
  pub without_chosen : slice_index_or chosen p false ≡ false → IsVolumeBelow coordinates chosen (p + 1) volume
  without_chosen is_not =
      let next = volume_next coordinates chosen p false is_not in
      record { is = omega (arith, next, so_far.is); small = omega (arith, so_far.small) }
