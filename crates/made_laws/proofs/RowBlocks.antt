-- The blocks of the drawing of a row of cubes: of each cube its full cells together, and each of its voids.
use Rattle.std.proofs.Common.{◌≡◌, ◌⊎◌, ⊎_elim, inl, inr, ◌↔◌, true, ℕ, zero, ◌+◌, ◌-◌, ◌*◌, ◌<◌, ◌≤◌, List, length, drop, get_or, Option, Some, None, ℤ, pos, ◌≤ℤ◌, IsTrue, ap, sym, subst, ◌∙◌, arith}
use Rattle.std.proofs.lemmas.Int.{ints}
use Rattle.std.proofs.lemmas.Option.{none-some, same_Some}
use Rattle.solid_model.specs.declared.cell.Axis.{Axis}
use Rattle.solid_model.specs.declared.cell.Axis.TheVariants.{X, Y, Z}
use Rattle.solid_model.specs.declared.cell.Cell.{Cell}
use Rattle.solid_model.specs.Blocks.{Joined, IsOutside, AreBlocksOf}
use Rattle.solid_model.specs.Cells.{cell_at}
use Rattle.solid_model.specs.DrawnStyle.{solid_drawing}
use Rattle.lemmas.specs.Lists.{Member}
use Rattle.solid_model.specs.Orders.{ComesBefore}
use Rattle.solid_model.specs.Panels.{GridParts, coordinates_of, IsGridOf}
use Rattle.solid_model.specs.WalledBoxes.{is_within, number_at, IsEarlier}
use Rattle.solid_model.specs.Runs.{IsDrawing}
use Rattle.solid_model.specs.VirtualFaces.{IsVirtual}
use Rattle.solid_model.specs.GridBox.{grid_sizes}
use Rattle.solid_model.proofs.BoxPlaces.{IsCellOfBox, cell_of_box}
use Rattle.solid_model.proofs.CellOrder.{LiesBefore, before-lies, lies-before}
use Rattle.solid_model.proofs.Fullness.{same_coordinates}
use Rattle.solid_model.proofs.OneNumbering.{one_numbering}
use Rattle.drawing_maker.specs.declared.cube.Cube.{Cube}
use Rattle.drawing_maker.specs.declared.ticks.Tick.{Tick}
use Rattle.drawing_maker.specs.Cubes.{Cubelet, cube_side, row_cells}
use Rattle.made_laws.specs.RowBlocks.{block_count, cubelet_block, blocks_before, row_block_count, block_where, blocks_in_row}
use Rattle.drawing_maker.specs.Rows.{row_ticks, coordinates_of_ticks}
use Rattle.drawing_maker.proofs.Rows.{IsRow}
use Rattle.drawing_maker.proofs.RowTicks.{no_tick, part_at}
use Rattle.made_laws.proofs.RowGrid.{cube_within, off_outside}
use Rattle.made_laws.proofs.RowJoined.{full_joined}
use Rattle.made_laws.proofs.RowOutside.{off_is_outside}
use Rattle.made_laws.proofs.RowPlaces.{first_place, tick_count, ends_before, ends_within, BelongsTo, belongs_to, blocks-sum_before, blocks-sum_all}
use Rattle.made_laws.proofs.RowCubelets.{Covers, place_in, place_is, place_less, one_or_apart, IsIn, cubelet_in, IsOff, in_or_off, block_of, block_of_is, block_in, block_off}
use Rattle.made_laws.proofs.RowSteps.{chain_keeps}
use Rattle.drawing_maker.proofs.RowUnion.{gaps_are}
use Rattle.drawing_maker.proofs.Cubelets.{IsInside}
use Rattle.lemmas.proofs.Concatenations.{length-over_triples, get_or-over_triples}
use Rattle.made_laws.proofs.CubeletNumbers.{CubeletBefore, block_below, one_or_full, IsFirstOf, first_of_block}

module _ (ps : List Cube) (row : IsRow ps) (g : GridParts) (same : (a : Axis) → coordinates_of g a ≡ coordinates_of_ticks (row_ticks ps))
    (grid : IsGridOf (solid_drawing (row_cells ps)) g) (is : IsDrawing (solid_drawing (row_cells ps))) where
  abbrev ticks_behind : List Tick
  ticks_behind = drop 1 (row_ticks ps)

  abbrev blocks : List (Option ℕ)
  blocks = blocks_in_row ps ticks_behind

  abbrev before_three : Tick → Tick → Tick → Option ℕ
  before_three x y z = block_where ps x.before y.before z.before

  sizes_are : (a : Axis) → grid_sizes g a ≡ length ticks_behind
  sizes_are = gaps_are ps row (coordinates_of g) same

  -- the list has for each cell its block
  number_is : (n : Cell) → is_within (grid_sizes g) n ≡ true → number_at (grid_sizes g) blocks n ≡ block_of ps row n
  number_is n n_in = by (cell_of_box (grid_sizes g) n n_in)
    where
      by : IsCellOfBox (grid_sizes g) n → number_at (grid_sizes g) blocks n ≡ block_of ps row n
      by at =
          let i = at.x.number in let j = at.y.number in let k = at.z.number in
          (λ t. number_at (grid_sizes g) blocks (record { x = at.x.is t; y = at.y.is t; z = at.z.is t }))
          ∙ (λ t. get_or blocks ((k * sizes_are Y t + j) * sizes_are X t + i) None)
          ∙ get_or-over_triples before_three ticks_behind ticks_behind ticks_behind i j k no_tick no_tick no_tick None
          (let l = at.x.less in omega (arith, l, sizes_are X)) (let l = at.y.less in omega (arith, l, sizes_are Y)) (let l = at.z.less in omega (arith, l, sizes_are Z))
          ∙ sym (λ t. block_where ps (part_at ps (at.x.is t)) (part_at ps (at.y.is t)) (part_at ps (at.z.is t)))
          ∙ sym (block_of_is ps row n)

  -- ---- one block

  cubelet_inside : (p : Cube) (u : Cell) → IsIn ps row p u → IsInside (cube_side p.kind) (cubelet_in ps row p u)
  cubelet_inside p u inside X = place_less ps row p u.x (inside X)
  cubelet_inside p u inside Y = place_less ps row p u.y (inside Y)
  cubelet_inside p u inside Z = place_less ps row p u.z (inside Z)

  -- of two cubes one has its blocks before the other
  one_or_before : (p q : Cube) → Member ps p → Member ps q
      → (p ≡ q) ⊎ (((first_place ps p + tick_count p.kind ≤ first_place ps q) × (blocks_before ps p.origin + block_count p.kind ≤ blocks_before ps q.origin))
      ⊎ ((first_place ps q + tick_count q.kind ≤ first_place ps p) × (blocks_before ps q.origin + block_count q.kind ≤ blocks_before ps p.origin)))
  one_or_before p q k m = by (one_or_apart ps row p q k m)
    where
      ends : (r s : Cube) → Member ps r → Member ps s → r.origin < s.origin → blocks_before ps r.origin + block_count r.kind ≤ blocks_before ps s.origin
      ends r s in_r in_s l =
          let e = ends_before block_count ps row r s in_r in_s l in
          omega (arith, e, blocks-sum_before ps r.origin, blocks-sum_before ps s.origin)

      by : (p ≡ q) ⊎ (((p.origin < q.origin) × (first_place ps p + tick_count p.kind ≤ first_place ps q))
          ⊎ ((q.origin < p.origin) × (first_place ps q + tick_count q.kind ≤ first_place ps p)))
          → (p ≡ q) ⊎ (((first_place ps p + tick_count p.kind ≤ first_place ps q) × (blocks_before ps p.origin + block_count p.kind ≤ blocks_before ps q.origin))
          ⊎ ((first_place ps q + tick_count q.kind ≤ first_place ps p) × (blocks_before ps q.origin + block_count q.kind ≤ blocks_before ps p.origin)))
      by (inl e) = inl e
      by (inr (inl h)) = inr (inl (h.1, ends p q k m h.0))
      by (inr (inr h)) = inr (inr (h.1, ends q p m k h.0))

  -- the number of a cell's block, in its cube
  abbrev number_in : Cube → Cell → ℕ
  number_in p u = blocks_before ps p.origin + cubelet_block p.kind (cubelet_in ps row p u)

  -- cells of cubes that have one number are joined
  joined_in_one : (p : Cube) (n m : Cell) → IsIn ps row p n → IsIn ps row p m
      → cubelet_block p.kind (cubelet_in ps row p n) ≡ cubelet_block p.kind (cubelet_in ps row p m) → Joined g n m
  joined_in_one p n m inside inside_too e = ⊎_elim {C = Joined g n m} one
      (λ solid. full_joined ps row g same grid is p n m inside inside_too solid.0 solid.1)
      (one_or_full p.kind (cubelet_in ps row p n) (cubelet_in ps row p m) (cubelet_inside p n inside) (cubelet_inside p m inside_too) e)
    where
      along : (z w : ℤ) → Covers ps row p z → Covers ps row p w → place_in ps row p z ≡ place_in ps row p w → z ≡ w
      along z w at too f = place_is ps row p z at ∙ ap (λ k. pos (first_place ps p + k)) f ∙ sym (place_is ps row p w too)

      one : cubelet_in ps row p n ≡ cubelet_in ps row p m → Joined g n m
      one f = (
        zero,
        same_coordinates n m
            (along n.x m.x (inside X) (inside_too X) (ap (λ (s : Cubelet). s.x) f))
            (along n.y m.y (inside Y) (inside_too Y) (ap (λ (s : Cubelet). s.y) f))
            (along n.z m.z (inside Z) (inside_too Z) (ap (λ (s : Cubelet). s.z) f)),
      )

  joined_from_number : (p q : Cube) (n m : Cell) → IsIn ps row p n → IsIn ps row q m → number_in p n ≡ number_in q m → Joined g n m
  joined_from_number p q n m inside inside_too e =
      let l = block_below p.kind (cubelet_in ps row p n) (cubelet_inside p n inside) in
      let k = block_below q.kind (cubelet_in ps row q m) (cubelet_inside q m inside_too) in
      ⊎_elim {C = Joined g n m}
      (λ one. joined_in_one p n m inside (subst (λ r. IsIn ps row r m) (sym one) inside_too)
      (let f : number_in p n ≡ number_in p m = e ∙ ap (λ r. number_in r m) (sym one) in omega (arith, f)))
      (λ apart. absurd (⊎_elim {C = ⊥} (λ h. omega (arith, e, l, k, h.1)) (λ h. omega (arith, e, l, k, h.1)) apart))
      (one_or_before p q (inside X).member (inside_too X).member)

  -- ---- the first cell of a block

  abbrev cell_of_cubelet : Cube → Cubelet → Cell
  cell_of_cubelet p s = cell_at (first_place ps p + s.x) (first_place ps p + s.y) (first_place ps p + s.z)

  cubelet_cell_in : (p : Cube) (s : Cubelet) → Member ps p → IsInside (cube_side p.kind) s → IsIn ps row p (cell_of_cubelet p s)
  cubelet_cell_in p s k inside X = let l = inside X in record { member = k; from = omega (arith, ints); to = omega (arith, ints, l) }
  cubelet_cell_in p s k inside Y = let l = inside Y in record { member = k; from = omega (arith, ints); to = omega (arith, ints, l) }
  cubelet_cell_in p s k inside Z = let l = inside Z in record { member = k; from = omega (arith, ints); to = omega (arith, ints, l) }

  cubelet_of_cell : (p : Cube) (s : Cubelet) → cubelet_in ps row p (cell_of_cubelet p s) ≡ s
  cubelet_of_cell p s =
      let back : (k : ℕ) → first_place ps p + k - first_place ps p ≡ k = λ k. omega arith in
      λ t. record { x = back s.x t; y = back s.y t; z = back s.z t }

  module _ (p : Cube) (k : Member ps p) (l : ℕ) (s : Cubelet) (first : IsFirstOf p.kind l s) where
    -- within the cube cubelets keep the order of cells
    cubelet_before : (m : Cell) → IsIn ps row p m → LiesBefore m (cell_of_cubelet p s) → CubeletBefore (cubelet_in ps row p m) s
    cubelet_before m inside before = lies-before _ _ (by before)
      where
        x : m.x ≡ pos (first_place ps p + place_in ps row p m.x)
        x = place_is ps row p m.x (inside X)

        y : m.y ≡ pos (first_place ps p + place_in ps row p m.y)
        y = place_is ps row p m.y (inside Y)

        z : m.z ≡ pos (first_place ps p + place_in ps row p m.z)
        z = place_is ps row p m.z (inside Z)

        by : LiesBefore m (cell_of_cubelet p s) → LiesBefore (cell_at (place_in ps row p m.x) (place_in ps row p m.y) (place_in ps row p m.z)) (cell_at s.x s.y s.z)
        by (inl less) = inl (omega (arith, ints, less, z))
        by (inr (e, inl less)) = inr (omega (arith, ints, e, z), inl (omega (arith, ints, less, y)))
        by (inr (e, inr (f, less))) = inr (omega (arith, ints, e, z), inr (omega (arith, ints, f, y), omega (arith, ints, less, x)))

    not_later : (m : Cell) → LiesBefore m (cell_of_cubelet p s) → m.z ≤ℤ pos (first_place ps p + s.z)
    not_later m (inl less) = omega (arith, ints, less)
    not_later m (inr (e, rest)) = omega (arith, ints, e)

    -- what comes before the first cell has a smaller number, or none
    earlier_number : (m : Cell) → LiesBefore m (cell_of_cubelet p s) → IsEarlier (blocks_before ps p.origin + l) (block_of ps row m)
    earlier_number m before = ⊎_elim {C = IsEarlier (blocks_before ps p.origin + l) (block_of ps row m)} in_cube
        (λ off. subst (IsEarlier (blocks_before ps p.origin + l)) (sym (block_off ps row m off)) tt) (in_or_off ps row m)
      where
        in_cube : (q : Cube) × IsIn ps row q m → IsEarlier (blocks_before ps p.origin + l) (block_of ps row m)
        in_cube (q, inside) =
            let late = not_later m before in
            let z = inside Z in
            let own = block_below q.kind (cubelet_in ps row q m) (cubelet_inside q m inside) in
            let in_s = first.inside Z in
            subst (IsEarlier (blocks_before ps p.origin + l)) (sym (block_in ps row q m inside))
            (⊎_elim {C = number_in q m < blocks_before ps p.origin + l}
            (λ one.
            let here : IsIn ps row p m = subst (λ r. IsIn ps row r m) (sym one) inside in
            let less = first.earlier (cubelet_in ps row p m) (cubelet_inside p m here) (cubelet_before m here before) in
            let e : number_in q m ≡ number_in p m = ap (λ r. number_in r m) (sym one) in
            omega (arith, less, e))
            (λ apart. ⊎_elim {C = number_in q m < blocks_before ps p.origin + l}
            (λ h. absurd (let from = z.from in omega (arith, ints, from, late, in_s, h.0)))
            (λ h. omega (arith, own, h.1)) apart)
            (one_or_before p q k z.member))

  -- ---- all of them

  outside_both : (n : Cell) → IsTrue (is_within (grid_sizes g) n) → (number_at (grid_sizes g) blocks n ≡ None) ↔ IsOutside g n
  outside_both n n_in = (
    (λ none. ⊎_elim {C = IsOutside g n} (λ at. absurd (none-some _ (sym none ∙ number_is n n_in ∙ block_in ps row at.0 n at.1)))
        (off_is_outside ps row g same grid is n) (in_or_off ps row n)),
    (λ leads. number_is n n_in ∙ chain_keeps ps row g same grid is n leads.0 leads.1 ∙ block_off ps row leads.0 (off_outside ps row g same leads.0 leads.2)),
  )

  joined_both : (n m : Cell) → IsTrue (is_within (grid_sizes g) n) → IsTrue (is_within (grid_sizes g) m) → (IsOutside g n → ⊥)
      → (number_at (grid_sizes g) blocks n ≡ number_at (grid_sizes g) blocks m) ↔ Joined g n m
  joined_both n m n_in m_in stays = (
    (λ e. by (sym (number_is n n_in) ∙ e ∙ number_is m m_in) (in_or_off ps row n) (in_or_off ps row m)),
    (λ chain. number_is n n_in ∙ chain_keeps ps row g same grid is n m chain ∙ sym (number_is m m_in)),
  )
    where
      by : block_of ps row n ≡ block_of ps row m → ((p : Cube) × IsIn ps row p n) ⊎ IsOff ps row n → ((p : Cube) × IsIn ps row p m) ⊎ IsOff ps row m → Joined g n m
      by e (inr off) h = absurd (stays (off_is_outside ps row g same grid is n off))
      by e (inl (p, inside)) (inr off) = absurd (none-some _ (sym (block_off ps row m off) ∙ sym e ∙ block_in ps row p n inside))
      by e (inl (p, inside)) (inl (q, inside_too)) =
          joined_from_number p q n m inside inside_too (same_Some _ _ (sym (block_in ps row p n inside) ∙ e ∙ block_in ps row q m inside_too))

  below_count : (n : Cell) (k : ℕ) → IsTrue (is_within (grid_sizes g) n) → number_at (grid_sizes g) blocks n ≡ Some k → k < row_block_count ps
  below_count n k n_in e = ⊎_elim {C = k < row_block_count ps}
      (λ at.
      let p = at.0 in
      let own = block_below p.kind (cubelet_in ps row p n) (cubelet_inside p n at.1) in
      let f = same_Some _ _ (sym (block_in ps row p n at.1) ∙ sym (number_is n n_in) ∙ e) in
      let all = ends_within block_count ps row p (at.1 X).member in
      omega (arith, own, f, all, blocks-sum_before ps p.origin, blocks-sum_all ps))
      (λ off. absurd (none-some k (sym (block_off ps row n off) ∙ sym (number_is n n_in) ∙ e))) (in_or_off ps row n)

  first_cell : (k : ℕ) → k < row_block_count ps → (n : Cell) × IsTrue (is_within (grid_sizes g) n) × (number_at (grid_sizes g) blocks n ≡ Some k)
      × ((m : Cell) → IsTrue (is_within (grid_sizes g) m) → ComesBefore m n → IsEarlier k (number_at (grid_sizes g) blocks m))
  first_cell k less = by (belongs_to block_count ps row k (omega (arith, less, blocks-sum_all ps)))
    where
      by : BelongsTo block_count ps k → (n : Cell) × IsTrue (is_within (grid_sizes g) n) × (number_at (grid_sizes g) blocks n ≡ Some k)
          × ((m : Cell) → IsTrue (is_within (grid_sizes g) m) → ComesBefore m n → IsEarlier k (number_at (grid_sizes g) blocks m))
      by of =
          let p = of.cube in
          let (s, first) = first_of_block p.kind of.local of.less in
          let inside = cubelet_cell_in p s of.member first.inside in
          let n_in = cube_within ps row g same p (cell_of_cubelet p s) inside in
          let number : blocks_before ps p.origin + of.local ≡ k = (let e = of.is in omega (arith, e, blocks-sum_before ps p.origin)) in (
            cell_of_cubelet p s,
            n_in,
            number_is (cell_of_cubelet p s) n_in ∙ block_in ps row p (cell_of_cubelet p s) inside
                ∙ ap (λ t. Some (blocks_before ps p.origin + cubelet_block p.kind t)) (cubelet_of_cell p s)
                ∙ ap (λ i. Some (blocks_before ps p.origin + i)) first.is ∙ ap Some number,
            λ m m_in before. subst (λ i. IsEarlier i (number_at (grid_sizes g) blocks m)) number
                (subst (IsEarlier (blocks_before ps p.origin + of.local)) (sym (number_is m m_in))
                (earlier_number p of.member of.local s first m (before-lies m (cell_of_cubelet p s) before))),
          )

  -- The blocks of the grid are those of the row.
  pub row_blocks : AreBlocksOf g (blocks_in_row ps (drop 1 (row_ticks ps))) (row_block_count ps)
  row_blocks = record {
    listed = length-over_triples before_three ticks_behind ticks_behind ticks_behind ∙ omega arith ∙ sym (λ t. sizes_are Z t * sizes_are Y t * sizes_are X t);
    outside = outside_both;
    joined = joined_both;
    below = below_count;
    first = first_cell;
  }

  -- they are numbered in one way
  pub row_numbers : (numbers : List (Option ℕ)) (count : ℕ) → AreBlocksOf g numbers count
      → (numbers ≡ blocks_in_row ps (drop 1 (row_ticks ps))) × (count ≡ row_block_count ps)
  row_numbers numbers count are = one_numbering (grid_sizes g) (IsVirtual g) numbers blocks count (row_block_count ps) are row_blocks
