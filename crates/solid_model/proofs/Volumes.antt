-- The unit cells of a union of grid cells, grid cell by grid cell: as many as its volume.
use Rattle.std.proofs.Common.{◌≡◌, ◌≢◌, ◌⊎◌, inl, inr, Bool, true, false, if◌then◌else◌, ℕ, zero, suc, ◌+◌, ◌*◌, ◌<◌, List, [], length, length-append, slice_index_or, ℤ, pos, ◌+ℤ◌, ◌-ℤ◌, ◌≤ℤ◌, ◌<ℤ◌, unsigned_abs, IsTrue, refl, ap, ap₂, sym, subst, ◌∙◌, arith}
use Rattle.std.proofs.lemmas.Bool.{both_ways}
use Rattle.std.proofs.lemmas.Int.{ints}
use Rattle.solid_model.specs.declared.cell.Axis.{Axis}
use Rattle.solid_model.specs.declared.cell.Axis.TheVariants.{X, Y, Z}
use Rattle.solid_model.specs.declared.cell.Cell.{Cell}
use Rattle.solid_model.specs.Cells.{coordinate, cell_at, is_full}
use Rattle.solid_model.specs.Grid.{Coordinates, GridCell, is_in_gap, LiesInGridCell, LiesInGrid, gaps_along, grid_cell_count, grid_cell_place, IsUnionOf}
use Rattle.lemmas.specs.Lists.{Member, Ascends}
use Rattle.lemmas.proofs.Lists.{appended, each-from, member-appended, member-from_appended, ascends-appended}
use Rattle.solid_model.specs.Orders.{ComesBefore, IsInStatedForm}
use Rattle.solid_model.specs.WalledBoxes.{place_of_number, box_place}
use Rattle.solid_model.specs.Volumes.{gap_width, grid_cell_volume, grid_cell_at, volume_below, volume_of}
use Rattle.solid_model.proofs.BoxPlaces.{place_there, within_box, HasNumbersBelow, numbers_below, cell_of_place, cell_of_place-within, cell_of_place-there, cell_of_place-own}
use Rattle.solid_model.proofs.CellOrder.{not_before_itself}
use Rattle.solid_model.proofs.Corners.{ascends-cells_over}
use Rattle.solid_model.proofs.Fullness.{is_full-member, member-is_full}
use Rattle.solid_model.proofs.Gaps.{member, lies_in, in_gap, earlier_less}
use Rattle.lemmas.proofs.Integers.{natural}
use Rattle.solid_model.proofs.UnionDrawing.{in_grid_or_not}
use Rattle.solid_model.proofs.Unions.{cells_over, member-cells_over, member-from_cells_over, length-cells_over, range_from, member-range_from, one_grid_cell}
use Rattle.lemmas.proofs.WithoutRepeats.{ascends-weaker, equally_long}

-- ---- ranges, and cells over three of them

length-range_from : (n : ℕ) (z : ℤ) → length (range_from z n) ≡ n
length-range_from zero z = refl
length-range_from (suc n) z = ap suc (length-range_from n (z +ℤ pos 1))

member-from_range_from : (n : ℕ) (z w : ℤ) → Member (range_from z n) w → (z ≤ℤ w) × (w <ℤ (z +ℤ pos n))
member-from_range_from zero z w k = absurd k
member-from_range_from (suc n) z w (inl e) = (omega (arith, ints, e), omega (arith, ints, e))
member-from_range_from (suc n) z w (inr k) =
    let rest = member-from_range_from n (z +ℤ pos 1) w k in (omega (arith, ints, rest.0), omega (arith, ints, rest.1))

ascends-range_from : (n : ℕ) (z : ℤ) → Ascends ◌<ℤ◌ (range_from z n)
ascends-range_from zero z = tt
ascends-range_from (suc n) z = (
  each-from (λ w. z <ℤ w) (range_from (z +ℤ pos 1) n) (λ w k. let l = (member-from_range_from n (z +ℤ pos 1) w k).0 in omega (arith, ints, l)),
  ascends-range_from n (z +ℤ pos 1),
)

-- ---- the integers in a gap

-- the difference leads from one integer to a greater one
difference : (a b : ℤ) → a ≤ℤ b → a +ℤ pos (unsigned_abs (b -ℤ a)) ≡ b
difference a b l =
    let d = natural (b -ℤ a) (omega (arith, ints, l)) in
    ap (λ z. a +ℤ pos (unsigned_abs z)) (sym d.1) ∙ omega (arith, ints, d.1)

abbrev gap_range : List ℤ → ℕ → List ℤ
gap_range zs n = range_from (member zs n) (gap_width zs n)

module _ (zs : List ℤ) (ascends : Ascends ◌<ℤ◌ zs) (n : ℕ) where
  -- the width of a gap leads from its beginning to its end
  gap_reaches : suc n < length zs → member zs n +ℤ pos (gap_width zs n) ≡ member zs (suc n)
  gap_reaches within =
      let l = earlier_less zs ascends n (suc n) (omega arith) within in
      let next : suc n ≡ n + 1 = omega arith in
      subst (λ m. member zs n +ℤ pos (unsigned_abs (member zs m -ℤ member zs n)) ≡ member zs (suc n)) next
      (difference (member zs n) (member zs (suc n)) (omega (arith, ints, l)))

  range-in_gap : suc n < length zs → (z : ℤ) → Member (gap_range zs n) z → is_in_gap zs n z ≡ true
  range-in_gap within z k =
      let bounds = member-from_range_from (gap_width zs n) (member zs n) z k in
      let end = gap_reaches within in
      in_gap zs n z within bounds.0 (subst (λ e. z <ℤ e) end bounds.1)

  in_gap-range : (z : ℤ) → is_in_gap zs n z ≡ true → Member (gap_range zs n) z
  in_gap-range z e =
      let at = lies_in zs n z e in
      member-range_from (gap_width zs n) (member zs n) z at.low (subst (λ w. z <ℤ w) (sym (gap_reaches at.within)) at.high)

-- ---- the unit cells of a grid cell

-- a cell differs from those that it comes before
before_differs : (c d : Cell) → ComesBefore c d → c ≢ d
before_differs c d before same = not_before_itself c (subst (ComesBefore c) (sym same) before)

module _ (coordinates : Coordinates) (ascends : (a : Axis) → Ascends ◌<ℤ◌ (coordinates a)) where
  -- where it reaches along an axis
  abbrev range_along : GridCell → Axis → List ℤ
  range_along n a = gap_range (coordinates a) (n a)

  abbrev cells_in : GridCell → List Cell
  cells_in n = cells_over (range_along n X) (range_along n Y) (range_along n Z)

  -- they are as many as its volume,
  length-cells_in : (n : GridCell) → length (cells_in n) ≡ grid_cell_volume coordinates n
  length-cells_in n =
      length-cells_over (range_along n X) (range_along n Y) (range_along n Z)
      ∙ (λ t. length-range_from (width Z) (member (coordinates Z) (n Z)) t * (length-range_from (width Y) (member (coordinates Y) (n Y)) t
      * length-range_from (width X) (member (coordinates X) (n X)) t))
      ∙ regrouped (width X) (width Y) (width Z)
    where
      width : Axis → ℕ
      width a = gap_width (coordinates a) (n a)

      regrouped : (x y z : ℕ) → z * (y * x) ≡ x * y * z
      regrouped x y z = omega arith

  -- come in order,
  ascends-cells_in : (n : GridCell) → Ascends ComesBefore (cells_in n)
  ascends-cells_in n = ascends-cells_over (range_along n X) (range_along n Y) (range_along n Z) (at X) (at Y) (at Z)
    where
      at : (a : Axis) → Ascends ◌<ℤ◌ (range_along n a)
      at a = ascends-range_from (gap_width (coordinates a) (n a)) (member (coordinates a) (n a))

  -- and are those that lie in it
  cells_in-lie : (n : GridCell) → ((a : Axis) → suc (n a) < length (coordinates a)) → (c : Cell) → Member (cells_in n) c
      → LiesInGridCell coordinates n c
  cells_in-lie n there c k = at (member-from_cells_over (range_along n X) (range_along n Y) (range_along n Z) c k)
    where
      at : Member (range_along n X) c.x × Member (range_along n Y) c.y × Member (range_along n Z) c.z → LiesInGridCell coordinates n c
      at (x, y, z) X = range-in_gap (coordinates X) (ascends X) (n X) (there X) c.x x
      at (x, y, z) Y = range-in_gap (coordinates Y) (ascends Y) (n Y) (there Y) c.y y
      at (x, y, z) Z = range-in_gap (coordinates Z) (ascends Z) (n Z) (there Z) c.z z

  lying-cells_in : (n : GridCell) (c : Cell) → LiesInGridCell coordinates n c → Member (cells_in n) c
  lying-cells_in n c lies = member-cells_over _ _ _ c
      (in_gap-range (coordinates X) (ascends X) (n X) c.x (lies X))
      (in_gap-range (coordinates Y) (ascends Y) (n Y) c.y (lies Y))
      (in_gap-range (coordinates Z) (ascends Z) (n Z) c.z (lies Z))

  -- ---- grid cells by their places

  -- a grid cell at a place has a gap along each axis
  place_has_gaps : (p : ℕ) → p < grid_cell_count coordinates → (a : Axis) → suc (grid_cell_at coordinates p a) < length (coordinates a)
  place_has_gaps p l =
      at (numbers_below (gaps_along coordinates) (record { x = n X; y = n Y; z = n Z }) (cell_of_place-within (gaps_along coordinates) p l))
    where
      n : GridCell
      n = grid_cell_at coordinates p

      at : HasNumbersBelow (gaps_along coordinates) (record { x = n X; y = n Y; z = n Z }) → (a : Axis) → suc (n a) < length (coordinates a)
      at below X = omega (arith, below.x)
      at below Y = omega (arith, below.y)
      at below Z = omega (arith, below.z)

  own_place : (p : ℕ) → grid_cell_place coordinates (grid_cell_at coordinates p) ≡ p
  own_place p = cell_of_place-there (gaps_along coordinates) p

  module _ (n : GridCell) (c : Cell) (lies : LiesInGridCell coordinates n c) where
    below : (a : Axis) → n a < gaps_along coordinates a
    below a = let at = lies_in (coordinates a) (n a) (coordinate a c) (lies a) in omega (arith, at.within)

    place_counted : grid_cell_place coordinates n < grid_cell_count coordinates
    place_counted = place_there (gaps_along coordinates) (n X) (n Y) (n Z) (below X) (below Y) (below Z)

    -- the grid cell in which a unit cell lies is that at its place
    at_place : (a : Axis) → grid_cell_at coordinates (grid_cell_place coordinates n) a ≡ n a
    at_place = by (cell_of_place-own (gaps_along coordinates) (cell_at (n X) (n Y) (n Z))
        (within_box (gaps_along coordinates) (n X) (n Y) (n Z) (below X) (below Y) (below Z)))
      where
        by : cell_of_place (gaps_along coordinates) (box_place (gaps_along coordinates) (cell_at (n X) (n Y) (n Z))) ≡ cell_at (n X) (n Y) (n Z)
            → (a : Axis) → grid_cell_at coordinates (grid_cell_place coordinates n) a ≡ n a
        by e X = ap (λ (d : Cell). place_of_number d.x) e
        by e Y = ap (λ (d : Cell). place_of_number d.y) e
        by e Z = ap (λ (d : Cell). place_of_number d.z) e

    lies_at_place : LiesInGridCell coordinates (grid_cell_at coordinates (grid_cell_place coordinates n)) c
    lies_at_place a = subst (λ m. IsTrue (is_in_gap (coordinates a) m (coordinate a c))) (sym (at_place a)) (lies a)

  -- ---- the unit cells of a union

  module _ (chosen : List Bool) where
    -- those of the grid cell at a place, if it is chosen
    abbrev cells_at_place : ℕ → List Cell
    cells_at_place p = if slice_index_or chosen p false then cells_in (grid_cell_at coordinates p) else []

    abbrev placed_cells : List Cell
    placed_cells = appended cells_at_place (grid_cell_count coordinates)

    length-places : (n : ℕ) → length (appended cells_at_place n) ≡ volume_below coordinates chosen n
    length-places zero = refl
    length-places (suc n) =
        length-append (appended cells_at_place n) (cells_at_place n) ∙ ap₂ ◌+◌ (length-places n) (at (slice_index_or chosen n false))
      where
        at : (t : Bool) → length (if t then cells_in (grid_cell_at coordinates n) else [])
            ≡ (if t then grid_cell_volume coordinates (grid_cell_at coordinates n) else 0)
        at true = length-cells_in (grid_cell_at coordinates n)
        at false = refl

    cells_at_place-lie : (p : ℕ) (c : Cell) → p < grid_cell_count coordinates → Member (cells_at_place p) c
        → (slice_index_or chosen p false ≡ true) × LiesInGridCell coordinates (grid_cell_at coordinates p) c
    cells_at_place-lie p c l = by (slice_index_or chosen p false) refl
      where
        by : (t : Bool) → slice_index_or chosen p false ≡ t → Member (if t then cells_in (grid_cell_at coordinates p) else []) c
            → (slice_index_or chosen p false ≡ true) × LiesInGridCell coordinates (grid_cell_at coordinates p) c
        by true e k = (e, cells_in-lie (grid_cell_at coordinates p) (place_has_gaps p l) c k)
        by false e k = absurd k

    -- no unit cell is there twice
    places_once : Ascends ◌≢◌ placed_cells
    places_once = ascends-appended ◌≢◌ cells_at_place (grid_cell_count coordinates) (λ k l. at k (slice_index_or chosen k false)) across
      where
        at : (k : ℕ) (t : Bool) → Ascends ◌≢◌ (if t then cells_in (grid_cell_at coordinates k) else [])
        at k true = ascends-weaker ComesBefore ◌≢◌ _ before_differs (ascends-cells_in (grid_cell_at coordinates k))
        at k false = tt

        across : (j k : ℕ) (x y : Cell) → j < k → k < grid_cell_count coordinates → Member (cells_at_place j) x → Member (cells_at_place k) y → x ≢ y
        across j k x y earlier l in_j in_k same =
            let at_j = (cells_at_place-lie j x (omega arith) in_j).1 in
            let at_k = subst (LiesInGridCell coordinates (grid_cell_at coordinates k)) (sym same) (cells_at_place-lie k y l in_k).1 in
            let one : j ≡ k = sym (own_place j) ∙ one_grid_cell coordinates ascends _ _ x at_j at_k ∙ own_place k in
            omega (arith, one)

    module _ (s : List Cell) (union : IsUnionOf coordinates chosen (is_full s)) where
      places_full : (c : Cell) → Member placed_cells c → Member s c
      places_full c k =
          let found = member-from_appended cells_at_place (grid_cell_count coordinates) c k in
          let at = cells_at_place-lie found.0 c found.1 found.2 in
          is_full-member s c (union.inside _ c at.1 ∙ ap (λ p. slice_index_or chosen p false) (own_place found.0) ∙ at.0)

      full_placed : (c : Cell) → Member s c → Member placed_cells c
      full_placed c k = by (in_grid_or_not coordinates ascends c)
        where
          by : ((n : GridCell) × LiesInGridCell coordinates n c) ⊎ (LiesInGrid coordinates c → ⊥) → Member placed_cells c
          by (inl (n, lies)) =
              let p = grid_cell_place coordinates n in
              let is_chosen : slice_index_or chosen p false ≡ true = sym (union.inside n c lies) ∙ member-is_full s c k in
              member-appended cells_at_place (grid_cell_count coordinates) p c (place_counted n c lies)
              (subst (λ t. Member (if t then cells_in (grid_cell_at coordinates p) else []) c) (sym is_chosen)
              (lying-cells_in (grid_cell_at coordinates p) c (lies_at_place n c lies)))
          by (inr none) = absurd (both_ways (is_full s c) (union.outside c none) (member-is_full s c k))

      -- so the volume is the number of unit cells
      pub volume_counts : IsInStatedForm s → length s ≡ volume_of coordinates chosen
      volume_counts stated = equally_long s placed_cells
          (ascends-weaker ComesBefore ◌≢◌ s before_differs stated)
          places_once full_placed places_full ∙ length-places (grid_cell_count coordinates)
