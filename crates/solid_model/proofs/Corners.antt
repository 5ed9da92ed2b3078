-- The least unit cells of a grid's cells, and choices of grid cells read off them.
use Rattle.std.proofs.Common.{◌≡◌, inl, inr, true, ℕ, zero, suc, ◌+◌, ◌*◌, ◌-◌, ◌<◌, List, [], ◌∷◌, length, map, get_or, ℤ, pos, ◌≤ℤ◌, ◌<ℤ◌, int_lt, int_le, IsTrue, refl, ap, sym, subst, ◌∙◌, arith}
use Rattle.std.specs.List.{flat_map}
use Rattle.std.proofs.lemmas.Bool.{false≢true, and_parts, and_from}
use Rattle.std.proofs.lemmas.Int.{ints}
use Rattle.std.proofs.lemmas.List.{length-take-le}
use Rattle.solid_model.specs.declared.cell.Axis.{Axis}
use Rattle.solid_model.specs.declared.cell.Axis.TheVariants.{X, Y, Z}
use Rattle.solid_model.specs.declared.cell.Cell.{Cell}
use Rattle.solid_model.specs.Cells.{coordinate}
use Rattle.solid_model.specs.Grid.{Coordinates, GridCell, is_in_gap, LiesInGridCell, gaps_along, grid_cell_count, grid_cell_place}
use Rattle.lemmas.specs.Lists.{Each, Ascends}
use Rattle.solid_model.specs.Orders.{ComesBefore}
use Rattle.solid_model.specs.Panels.{starts_of}
use Rattle.solid_model.specs.WalledBoxes.{is_within}
use Rattle.solid_model.specs.GridBox.{grid_cell_of}
use Rattle.solid_model.proofs.BoxCells.{place-below, within-below}
use Rattle.solid_model.proofs.CellOrder.{lies-before}
use Rattle.lemmas.proofs.Lists.{each-at, each-from, each-map}
use Rattle.solid_model.proofs.SameOnGrid.{starts_more}
use Rattle.lemmas.proofs.Concatenations.{each-flat_map, ascends-flat_map, within_product, get_or-over_triples}
use Rattle.solid_model.proofs.Unions.{cells_over, length-cells_over}

-- ---- where gaps begin

-- there are as many of these as gaps, one fewer than members
pub length-starts_of : (zs : List ℤ) → length (starts_of zs) ≡ length zs - 1
length-starts_of zs = length-take-le (length zs - 1) zs (omega arith)

-- the gap of a number begins at the list's member of that number, which lies in it
pub record BeginsGap (zs : List ℤ) (n : ℕ) : Type 0 where
  pub within : n < length (starts_of zs)
  pub in_gap : IsTrue (is_in_gap zs n (get_or (starts_of zs) n (pos 0)))

begins_later : (a b : ℤ) (zs : List ℤ) (n : ℕ) → BeginsGap (b ∷ zs) n → BeginsGap (a ∷ b ∷ zs) (suc n)
begins_later a b zs n rest = record {
  within = subst (λ ws. suc n < length ws) (sym (starts_more a b zs)) (let l = rest.within in omega arith);
  in_gap = subst (λ ws. IsTrue (is_in_gap (b ∷ zs) n (get_or ws (suc n) (pos 0)))) (sym (starts_more a b zs)) rest.in_gap;
}

begins_here : (a b : ℤ) (zs : List ℤ) → a <ℤ b → BeginsGap (a ∷ b ∷ zs) zero
begins_here a b zs l = record {
  within = subst (λ ws. zero < length ws) (sym (starts_more a b zs)) (omega arith);
  in_gap = subst (λ ws. IsTrue (is_in_gap (a ∷ b ∷ zs) zero (get_or ws zero (pos 0)))) (sym (starts_more a b zs))
      (and_from (int_le a a) (int_lt a b) (grind (arith, ints)) (grind (arith, ints)));
}

gap_begins : (zs : List ℤ) (n : ℕ) (z : ℤ) → IsTrue (is_in_gap zs n z) → BeginsGap zs n
gap_begins [] n z e = absurd (false≢true e)
gap_begins (a ∷ []) n z e = absurd (false≢true e)
gap_begins (a ∷ b ∷ zs) zero z e = let parts = and_parts (int_le a z) (int_lt z b) e in begins_here a b zs (omega (arith, ints, parts.0, parts.1))
gap_begins (a ∷ b ∷ zs) (suc n) z e = begins_later a b zs n (gap_begins (b ∷ zs) n z e)

-- each number below the number of gaps is that of a gap
pub numbered_gap : (zs : List ℤ) → Ascends ◌<ℤ◌ zs → (n : ℕ) → n < length zs - 1 → BeginsGap zs n
numbered_gap [] ascends n l = absurd (omega arith)
numbered_gap (a ∷ []) ascends n l = absurd (omega arith)
numbered_gap (a ∷ b ∷ zs) ascends zero l = begins_here a b zs ascends.0.0
numbered_gap (a ∷ b ∷ zs) ascends (suc n) l = begins_later a b zs n (numbered_gap (b ∷ zs) ascends.1 n (omega arith))

-- a gap begins no later than what lies in it
pub begins_no_later : (zs : List ℤ) (n : ℕ) (z : ℤ) → IsTrue (is_in_gap zs n z) → get_or (starts_of zs) n (pos 0) ≤ℤ z
begins_no_later [] n z e = absurd (false≢true e)
begins_no_later (a ∷ []) n z e = absurd (false≢true e)
begins_no_later (a ∷ b ∷ zs) zero z e =
    let parts = and_parts (int_le a z) (int_lt z b) e in
    subst (λ ws. get_or ws zero (pos 0) ≤ℤ z) (sym (starts_more a b zs)) (omega (arith, ints, parts.0))
begins_no_later (a ∷ b ∷ zs) (suc n) z e =
    subst (λ ws. get_or ws (suc n) (pos 0) ≤ℤ z) (sym (starts_more a b zs)) (begins_no_later (b ∷ zs) n z e)

-- where gaps begin ascends too
ascends-starts_of : (zs : List ℤ) → Ascends ◌<ℤ◌ zs → Ascends ◌<ℤ◌ (starts_of zs)
ascends-starts_of [] ascends = tt
ascends-starts_of (a ∷ []) ascends = tt
ascends-starts_of (a ∷ b ∷ zs) ascends =
    subst (Ascends ◌<ℤ◌) (sym (starts_more a b zs)) (each-starts (λ w. a <ℤ w) (b ∷ zs) ascends.0, ascends-starts_of (b ∷ zs) ascends.1)
  where
    each-starts : (P : ℤ → Type 0) (ws : List ℤ) → Each P ws → Each P (starts_of ws)
    each-starts P [] h = tt
    each-starts P (x ∷ []) h = tt
    each-starts P (x ∷ y ∷ ws) h = subst (Each P) (sym (starts_more x y ws)) (h.0, each-starts P (y ∷ ws) h.1)

-- ---- cells in order

-- the cells over three ascending lists are in order
pub ascends-cells_over : (xs ys zs : List ℤ) → Ascends ◌<ℤ◌ xs → Ascends ◌<ℤ◌ ys → Ascends ◌<ℤ◌ zs → Ascends ComesBefore (cells_over xs ys zs)
ascends-cells_over xs ys zs in_x in_y in_z = ascends-flat_map ◌<ℤ◌ ComesBefore layer zs in_z layers_ascend layers_across
  where
    row : ℤ → ℤ → List Cell
    row z y = map (λ x. record { x = x; y = y; z = z }) xs

    layer : ℤ → List Cell
    layer z = flat_map (row z) ys

    row_ascends : (z y : ℤ) (ws : List ℤ) → Ascends ◌<ℤ◌ ws → Ascends ComesBefore (map (λ x. record { x = x; y = y; z = z }) ws)
    row_ascends z y [] h = tt
    row_ascends z y (x ∷ ws) h = (
      each-map (λ w. record { x = w; y = y; z = z }) (ComesBefore (record { x = x; y = y; z = z })) ws
          (each-from _ ws (λ w k. lies-before (record { x = x; y = y; z = z }) (record { x = w; y = y; z = z }) (inr (refl, inr (refl, each-at (λ v. x <ℤ v) ws w h.0 k))))),
      row_ascends z y ws h.1,
    )

    rows_across : (z y v : ℤ) → y <ℤ v → Each (λ c. Each (ComesBefore c) (row z v)) (row z y)
    rows_across z y v l = each-map (λ x. record { x = x; y = y; z = z }) (λ c. Each (ComesBefore c) (row z v)) xs
        (each-from _ xs (λ x k. each-map (λ w. record { x = w; y = v; z = z }) (ComesBefore (record { x = x; y = y; z = z })) xs
        (each-from _ xs (λ w m. lies-before (record { x = x; y = y; z = z }) (record { x = w; y = v; z = z }) (inr (refl, inl l))))))

    layers_ascend : (z : ℤ) → Ascends ComesBefore (layer z)
    layers_ascend z = ascends-flat_map ◌<ℤ◌ ComesBefore (row z) ys in_y (λ y. row_ascends z y xs in_x) (rows_across z)

    layers_across : (z w : ℤ) → z <ℤ w → Each (λ c. Each (ComesBefore c) (layer w)) (layer z)
    layers_across z w l = each-flat_map (λ c. Each (ComesBefore c) (layer w)) (row z) ys (λ y k.
        each-map (λ x. record { x = x; y = y; z = z }) (λ c. Each (ComesBefore c) (layer w)) xs (each-from _ xs (λ x m.
        each-flat_map (ComesBefore (record { x = x; y = y; z = z })) (row w) ys (λ v n.
        each-map (λ u. record { x = u; y = v; z = w }) (ComesBefore (record { x = x; y = y; z = z })) xs (each-from _ xs (λ u o. lies-before (record { x = x; y = y; z = z }) (record { x = u; y = v; z = w }) (inl l)))))))

-- ---- the corners of a grid's cells

module _ (coordinates : Coordinates) (ascends : (a : Axis) → Ascends ◌<ℤ◌ (coordinates a)) where
  -- the least unit cell of each grid cell, z slowest and x fastest
  abbrev pub corners : List Cell
  corners = cells_over (starts_of (coordinates X)) (starts_of (coordinates Y)) (starts_of (coordinates Z))

  -- that of one grid cell
  abbrev pub corner_of : GridCell → Cell
  corner_of n = record {
    x = get_or (starts_of (coordinates X)) (n X) (pos 0);
    y = get_or (starts_of (coordinates Y)) (n Y) (pos 0);
    z = get_or (starts_of (coordinates Z)) (n Z) (pos 0);
  }

  -- a grid cell along each axis
  abbrev pub IsGridCell : GridCell → Type 0
  IsGridCell n = (a : Axis) → BeginsGap (coordinates a) (n a)

  -- what a unit cell lies in is one
  pub lying-is_grid_cell : (n : GridCell) (c : Cell) → LiesInGridCell coordinates n c → IsGridCell n
  lying-is_grid_cell n c at a = gap_begins (coordinates a) (n a) (coordinate a c) (at a)

  -- a cell of the box that they make is one of them, by its numbers
  pub within-is_grid_cell : (n : Cell) → is_within (gaps_along coordinates) n ≡ true → IsGridCell (grid_cell_of n)
  within-is_grid_cell n within a = numbered_gap (coordinates a) (ascends a) (grid_cell_of n a)
      (place-below (gaps_along coordinates a) (coordinate a n) (within-below (gaps_along coordinates) n within a))

  -- its corner lies in it
  pub corner_lies : (n : GridCell) → IsGridCell n → LiesInGridCell coordinates n (corner_of n)
  corner_lies n is X = (is X).in_gap
  corner_lies n is Y = (is Y).in_gap
  corner_lies n is Z = (is Z).in_gap

  -- the list of corners has that of each grid cell at its place
  place_is : (n : GridCell) → grid_cell_place coordinates n
      ≡ (n Z * length (starts_of (coordinates Y)) + n Y) * length (starts_of (coordinates X)) + n X
  place_is n = λ t. (n Z * sym (length-starts_of (coordinates Y)) t + n Y) * sym (length-starts_of (coordinates X)) t + n X

  -- so the corner of a grid cell stands at its place
  pub corner_at_place : (n : GridCell) (d : Cell) → IsGridCell n → get_or corners (grid_cell_place coordinates n) d ≡ corner_of n
  corner_at_place n d is = ap (λ p. get_or corners p d) (place_is n)
      ∙ get_or-over_triples (λ x y z. record { x = x; y = y; z = z }) (starts_of (coordinates X)) (starts_of (coordinates Y)) (starts_of (coordinates Z))
      (n X) (n Y) (n Z) (pos 0) (pos 0) (pos 0) d (is X).within (is Y).within (is Z).within

  -- there are as many corners as grid cells
  pub length-corners : length corners ≡ grid_cell_count coordinates
  length-corners =
      let p = length-starts_of (coordinates X) in let q = length-starts_of (coordinates Y) in let r = length-starts_of (coordinates Z) in
      length-cells_over (starts_of (coordinates X)) (starts_of (coordinates Y)) (starts_of (coordinates Z))
      ∙ (λ t. r t * (q t * p t)) ∙ regrouped (gaps_along coordinates X) (gaps_along coordinates Y) (gaps_along coordinates Z)
    where
      regrouped : (x y z : ℕ) → z * (y * x) ≡ z * y * x
      regrouped x y z = omega arith

  -- the place of a grid cell is one of them
  pub place_within : (n : GridCell) → IsGridCell n → grid_cell_place coordinates n < length corners
  place_within n is =
      let x = (is X).within in let y = (is Y).within in let z = (is Z).within in
      let p = place_is n in let l = length-cells_over (starts_of (coordinates X)) (starts_of (coordinates Y)) (starts_of (coordinates Z)) in
      let outer = within_product (n Z * length (starts_of (coordinates Y)) + n Y) (length (starts_of (coordinates Z)) * length (starts_of (coordinates Y))) (n X) (length (starts_of (coordinates X)))
      (within_product (n Z) (length (starts_of (coordinates Z))) (n Y) (length (starts_of (coordinates Y))) z y) x in
      omega arith

  -- the corners are in order
  pub ascends-corners : Ascends ComesBefore corners
  ascends-corners = ascends-cells_over _ _ _ (ascends-starts_of (coordinates X) (ascends X)) (ascends-starts_of (coordinates Y) (ascends Y)) (ascends-starts_of (coordinates Z) (ascends Z))
