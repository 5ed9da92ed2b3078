-- Unions of grid cells: their unit cells in a list, and each matching solid as such a union.
use Rattle.std.proofs.Common.{◌≡◌, ◌⊎◌, inl, inr, ⊎_elim, Bool, true, false, ℕ, zero, suc, ◌+◌, ◌*◌, List, [], ◌∷◌, ◌++◌, length, filter, slice_index_or, ℤ, pos, negsuc, ◌+ℤ◌, ◌-ℤ◌, ◌≤ℤ◌, ◌<ℤ◌, int_lt, int_le, IsTrue, refl, ap, sym, subst, ◌∙◌, arith}
use Rattle.std.proofs.lemmas.Bool.{false≢true, both_ways, and_parts, false_from_ne_true}
use Rattle.std.proofs.lemmas.Int.{ints, by_lt_z}
use Rattle.solid_model.specs.declared.cell.Axis.{Axis}
use Rattle.solid_model.specs.declared.cell.Axis.TheVariants.{X, Y, Z}
use Rattle.solid_model.specs.declared.cell.Cell.{Cell}
use Rattle.solid_model.specs.Cells.{coordinate, is_full}
use Rattle.solid_model.specs.Grid.{Coordinates, GridCell, is_in_gap, LiesInGridCell, LiesInGrid, gaps_along, grid_cell_place, IsUnionOf}
use Rattle.lemmas.specs.Lists.{Member, Ascends}
use Rattle.lemmas.proofs.Concatenations.{over_triples, member-over_triples, member-from_over_triples, length-over_triples}
use Rattle.solid_model.proofs.Fullness.{is_full-member, member-is_full}
use Rattle.lemmas.proofs.Lists.{member-append_left, member-append_right, member-filter, member-from_filter}
use Rattle.solid_model.proofs.UnionDrawing.{one_gap, in_grid_or_not}

-- ---- lists over three axes

-- the cells with these coordinates, z slowest and x fastest
abbrev pub cells_over : List ℤ → List ℤ → List ℤ → List Cell
cells_over = over_triples (λ x y z. record { x = x; y = y; z = z })

-- a cell whose coordinates are members is there
pub member-cells_over : (xs ys zs : List ℤ) (c : Cell) → Member xs c.x → Member ys c.y → Member zs c.z → Member (cells_over xs ys zs) c
member-cells_over xs ys zs c = member-over_triples (λ x y z. record { x = x; y = y; z = z }) xs ys zs c.x c.y c.z

-- the coordinates of a cell over three lists are members of them
pub member-from_cells_over : (xs ys zs : List ℤ) (c : Cell) → Member (cells_over xs ys zs) c → Member xs c.x × Member ys c.y × Member zs c.z
member-from_cells_over xs ys zs c k =
    let (x, y, z, at_x, at_y, at_z, e) = member-from_over_triples (λ x y z. record { x = x; y = y; z = z }) xs ys zs c k in (
      subst (Member xs) (ap (λ (d : Cell). d.x) e) at_x,
      subst (Member ys) (ap (λ (d : Cell). d.y) e) at_y,
      subst (Member zs) (ap (λ (d : Cell). d.z) e) at_z,
    )

-- they are as many as there are triples of members
pub length-cells_over : (xs ys zs : List ℤ) → length (cells_over xs ys zs) ≡ length zs * (length ys * length xs)
length-cells_over = length-over_triples (λ x y z. record { x = x; y = y; z = z })

-- ---- the unit cells of a union

-- n integers from one on
abbrev pub range_from : ℤ → ℕ → List ℤ
range_from z zero = []
range_from z (suc n) = z ∷ range_from (z +ℤ pos 1) n

-- they are those from the first one to before the n-th next one
pub member-range_from : (n : ℕ) (z w : ℤ) → z ≤ℤ w → w <ℤ (z +ℤ pos n) → Member (range_from z n) w
member-range_from zero z w from to = absurd (omega (arith, ints))
member-range_from (suc n) z w from to = by_lt_z z w
    (λ l. inr (member-range_from n (z +ℤ pos 1) w (omega (arith, ints)) (omega (arith, ints)))) (λ l. inl (omega (arith, ints)))

-- how far an integer is above 0
abbrev above_zero : ℤ → ℕ
above_zero (pos n) = n
above_zero (negsuc n) = zero

above_zero-at_least : (z : ℤ) → z ≤ℤ pos (above_zero z)
above_zero-at_least (pos n) = omega (arith, ints)
above_zero-at_least (negsuc n) = omega (arith, ints)

-- the integers in the gaps of a list
abbrev gap_places : List ℤ → List ℤ
gap_places [] = []
gap_places (a ∷ []) = []
gap_places (a ∷ b ∷ zs) = range_from a (above_zero (b -ℤ a)) ++ gap_places (b ∷ zs)

member-gap_places : (zs : List ℤ) (n : ℕ) (z : ℤ) → IsTrue (is_in_gap zs n z) → Member (gap_places zs) z
member-gap_places [] n z e = absurd (false≢true e)
member-gap_places (a ∷ []) n z e = absurd (false≢true e)
member-gap_places (a ∷ b ∷ zs) zero z e =
    let parts = and_parts (int_le a z) (int_lt z b) e in
    let far = above_zero-at_least (b -ℤ a) in
    member-append_left (range_from a (above_zero (b -ℤ a))) (gap_places (b ∷ zs)) z
    (member-range_from (above_zero (b -ℤ a)) a z (omega (arith, ints, parts.0)) (omega (arith, ints, parts.1)))
member-gap_places (a ∷ b ∷ zs) (suc n) z e = member-append_right (range_from a (above_zero (b -ℤ a))) (gap_places (b ∷ zs)) z (member-gap_places (b ∷ zs) n z e)

module _ (coordinates : Coordinates) (ascends : (a : Axis) → Ascends ◌<ℤ◌ (coordinates a)) where
  -- a cell lies in one grid cell
  pub one_grid_cell : (n m : GridCell) (c : Cell) → LiesInGridCell coordinates n c → LiesInGridCell coordinates m c → grid_cell_place coordinates n ≡ grid_cell_place coordinates m
  one_grid_cell n m c at_n at_m =
      let same = λ (a : Axis). one_gap (coordinates a) (ascends a) (n a) (m a) (coordinate a c) (at_n a) (at_m a) in
      λ t. (same Z t * gaps_along coordinates Y + same Y t) * gaps_along coordinates X + same X t

  module _ (chosen : List Bool) where
    -- a cell is full where its grid cell is chosen
    abbrev full_where_chosen : (c : Cell) → ((n : GridCell) × LiesInGridCell coordinates n c) ⊎ (LiesInGrid coordinates c → ⊥) → Bool
    full_where_chosen c (inl at) = slice_index_or chosen (grid_cell_place coordinates at.0) false
    full_where_chosen c (inr none) = false

    abbrev union_full : Cell → Bool
    union_full c = full_where_chosen c (in_grid_or_not coordinates ascends c)

    union_is : IsUnionOf coordinates chosen union_full
    union_is = record { inside = λ n c at. inside n c at (in_grid_or_not coordinates ascends c); outside = λ c none. outside c none (in_grid_or_not coordinates ascends c) }
      where
        inside : (n : GridCell) (c : Cell) → LiesInGridCell coordinates n c → (found : ((m : GridCell) × LiesInGridCell coordinates m c) ⊎ (LiesInGrid coordinates c → ⊥))
            → full_where_chosen c found ≡ slice_index_or chosen (grid_cell_place coordinates n) false
        inside n c at (inl found) = ap (λ p. slice_index_or chosen p false) (one_grid_cell found.0 n c found.1 at)
        inside n c at (inr none) = absurd (none (λ a. (n a, at a)))

        outside : (c : Cell) → (LiesInGrid coordinates c → ⊥) → (found : ((m : GridCell) × LiesInGridCell coordinates m c) ⊎ (LiesInGrid coordinates c → ⊥)) → full_where_chosen c found ≡ false
        outside c none (inl found) = absurd (none (λ a. (found.0 a, found.1 a)))
        outside c none (inr _) = refl

    -- a full cell lies in the grid
    full_in_grid : (c : Cell) → union_full c ≡ true → LiesInGrid coordinates c
    full_in_grid c full = ⊎_elim (λ at a. (at.0 a, at.1 a)) (λ none. absurd (both_ways (union_full c) (union_is.outside c none) full)) (in_grid_or_not coordinates ascends c)

    -- the unit cells of the box of all grid cells that are full
    abbrev union_cells : List Cell
    union_cells = filter union_full (cells_over (gap_places (coordinates X)) (gap_places (coordinates Y)) (gap_places (coordinates Z)))

    union_cells-full : (c : Cell) → is_full union_cells c ≡ union_full c
    union_cells-full c = by (union_full c) refl
      where
        all : List Cell
        all = cells_over (gap_places (coordinates X)) (gap_places (coordinates Y)) (gap_places (coordinates Z))

        by : (t : Bool) → union_full c ≡ t → is_full (filter union_full all) c ≡ union_full c
        by true e =
            let lies = full_in_grid c e in
            member-is_full (filter union_full all) c (member-filter union_full all c
            (member-cells_over _ _ _ c (member-gap_places (coordinates X) (lies X).0 c.x (lies X).1) (member-gap_places (coordinates Y) (lies Y).0 c.y (lies Y).1) (member-gap_places (coordinates Z) (lies Z).0 c.z (lies Z).1)) e) ∙ sym e
        by false e = false_from_ne_true _ (λ full. both_ways (union_full c) e (member-from_filter union_full all c (is_full-member _ c full)).1) ∙ sym e

    -- each union of grid cells has a list of its unit cells
    pub some_union : (s : List Cell) × IsUnionOf coordinates chosen (is_full s)
    some_union = (
      union_cells,
      record {
        inside = λ n c at. union_cells-full c ∙ union_is.inside n c at;
        outside = λ c none. union_cells-full c ∙ union_is.outside c none;
      },
    )
