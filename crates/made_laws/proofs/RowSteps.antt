-- Each step that crosses no virtual face stays in its block: of two neighbouring cells that are of different blocks one is full
-- and the other empty.
use Rattle.std.proofs.Common.{◌≡◌, ◌⊎◌, inl, inr, Bool, true, false, not, ◌&&◌, suc, ◌+◌, List, Some, ℤ, pos, ◌-ℤ◌, refl, ap, sym, subst, ◌∙◌, arith}
use Rattle.std.proofs.lemmas.Bool.{false≢true, both_ways, and_parts, false_from_ne_true}
use Rattle.std.proofs.lemmas.Int.{ints, by_lt_z}
use Rattle.solid_model.specs.declared.cell.Axis.{Axis}
use Rattle.solid_model.specs.declared.cell.Axis.TheVariants.{X, Y, Z}
use Rattle.solid_model.specs.declared.cell.Cell.{Cell}
use Rattle.solid_model.specs.Blocks.{Joined}
use Rattle.solid_model.specs.Cells.{coordinate, placed, cell_before}
use Rattle.solid_model.specs.DrawnStyle.{solid_drawing}
use Rattle.solid_model.specs.Panels.{GridParts, coordinates_of, IsGridOf}
use Rattle.solid_model.specs.WalledBoxes.{Passes}
use Rattle.solid_model.specs.Runs.{IsDrawing}
use Rattle.solid_model.specs.VirtualFaces.{IsVirtual}
use Rattle.lemmas.proofs.Chains.{reaches-keeps}
use Rattle.solid_model.proofs.ConstantOnBlocks.{flat_unless_virtual}
use Rattle.solid_model.proofs.InGrid.{placed_at}
use Rattle.drawing_maker.specs.declared.cube.Cube.{Cube}
use Rattle.drawing_maker.specs.Cubes.{cube_side, is_void, row_cells}
use Rattle.made_laws.specs.RowBlocks.{blocks_before}
use Rattle.drawing_maker.specs.Rows.{row_ticks, coordinates_of_ticks}
use Rattle.drawing_maker.proofs.Rows.{IsRow}
use Rattle.made_laws.proofs.RowGrid.{full_on_grid, row_matches}
use Rattle.made_laws.proofs.RowJoined.{placed_own, placed_twice, full_at_solid}
use Rattle.made_laws.proofs.RowPlaces.{first_place}
use Rattle.made_laws.proofs.RowCubelets.{hole, void_is, hole_is_inner, no_hole_first, Covers, place_in, place_is, one_covers_next, IsIn, cubelet_in, IsOff, in_or_off, not_both, full_at, full_in, full_off, block_of, block_in, block_off}
use Rattle.made_laws.proofs.CubeletNumbers.{full_block}

module _ (ps : List Cube) (row : IsRow ps) where
  -- moved along an axis within the cube a cell stays in it
  stays_in : (p : Cube) (a : Axis) (k : ℤ) (u : Cell) → IsIn ps row p u → Covers ps row p k → IsIn ps row p (placed a k u)
  stays_in p X k u inside at X = at
  stays_in p X k u inside at Y = inside Y
  stays_in p X k u inside at Z = inside Z
  stays_in p Y k u inside at X = inside X
  stays_in p Y k u inside at Y = at
  stays_in p Y k u inside at Z = inside Z
  stays_in p Z k u inside at X = inside X
  stays_in p Z k u inside at Y = inside Y
  stays_in p Z k u inside at Z = at

  -- a void has a place with voids along each axis
  void_at : (p : Cube) (u : Cell) → is_void p.kind (cubelet_in ps row p u) ≡ true → (a : Axis) → hole p.kind (place_in ps row p (coordinate a u)) ≡ true
  void_at p u e a = by a
    where
      h : ℤ → Bool
      h z = hole p.kind (place_in ps row p z)

      parts : (h u.x ≡ true) × ((h u.y && h u.z) ≡ true)
      parts = and_parts (h u.x) (h u.y && h u.z) (sym (void_is p.kind (cubelet_in ps row p u)) ∙ e)

      by : (b : Axis) → h (coordinate b u) ≡ true
      by X = parts.0
      by Y = (and_parts (h u.y) (h u.z) parts.1).0
      by Z = (and_parts (h u.y) (h u.z) parts.1).1

  -- at its first place a cube is full,
  enters : (p : Cube) (u : Cell) (a : Axis) → IsIn ps row p u → IsOff ps row (cell_before a u) → full_at ps row u ≡ full_at ps row (cell_before a u) → ⊥
  enters p u a inside off same = by_lt_z (coordinate a u -ℤ pos 1) (pos (first_place ps p))
      (λ before.
      let e = place_is ps row p (coordinate a u) (inside a) in
      let first : place_in ps row p (coordinate a u) ≡ 0 = omega (arith, ints, before, e) in
      false≢true (sym (full_off ps row (cell_before a u) off) ∙ sym same
      ∙ full_at_solid ps row p u inside a (ap (hole p.kind) first ∙ no_hole_first p.kind)))
      (λ from. not_both ps row p (cell_before a u) (stays_in p a (coordinate a u -ℤ pos 1) u inside
      (record { member = (inside a).member; from = from; to = (let l = (inside a).to in omega (arith, ints, l)) })) off)

  -- and at its last one
  leaves : (p : Cube) (u : Cell) (a : Axis) → IsOff ps row u → IsIn ps row p (cell_before a u) → full_at ps row u ≡ full_at ps row (cell_before a u) → ⊥
  leaves p u a off inside same = by_lt_z (coordinate a u) (pos (first_place ps p + cube_side p.kind))
      (λ to. not_both ps row p u (subst (IsIn ps row p) (placed_twice a (coordinate a u) (coordinate a u -ℤ pos 1) u ∙ placed_own a u)
      (stays_in p a (coordinate a u) (cell_before a u) inside
      (record { member = (inside a).member; from = (let l = (inside a).from in omega (arith, ints, l, at)); to = to }))) off)
      (λ behind.
      let e = place_is ps row p (coordinate a (cell_before a u)) (inside a) in
      false≢true (sym (full_off ps row u off) ∙ same ∙ full_at_solid ps row p (cell_before a u) inside a
      (false_from_ne_true _ (λ h. let l = (hole_is_inner p.kind _ h).before_last in omega (arith, ints, behind, e, at, l)))))
    where
      at : coordinate a (cell_before a u) ≡ coordinate a u -ℤ pos 1
      at = placed_at a (coordinate a u -ℤ pos 1) u

  -- within a cube two neighbours aren't both voids
  within : (p : Cube) (u : Cell) (a : Axis) → IsIn ps row p u → IsIn ps row p (cell_before a u) → full_at ps row u ≡ full_at ps row (cell_before a u)
      → block_of ps row u ≡ block_of ps row (cell_before a u)
  within p u a inside before same = by (is_void p.kind (cubelet_in ps row p u)) (is_void p.kind (cubelet_in ps row p (cell_before a u))) refl refl
    where
      at : coordinate a (cell_before a u) ≡ coordinate a u -ℤ pos 1
      at = placed_at a (coordinate a u -ℤ pos 1) u

      told : not (is_void p.kind (cubelet_in ps row p u)) ≡ not (is_void p.kind (cubelet_in ps row p (cell_before a u)))
      told = sym (full_in ps row p u inside) ∙ same ∙ full_in ps row p (cell_before a u) before

      next : place_in ps row p (coordinate a u) ≡ suc (place_in ps row p (coordinate a (cell_before a u)))
      next =
          let e = place_is ps row p (coordinate a u) (inside a) in
          let f = place_is ps row p (coordinate a (cell_before a u)) (before a) in
          omega (arith, ints, at, e, f)

      number : (c : Cell) → IsIn ps row p c → is_void p.kind (cubelet_in ps row p c) ≡ false → block_of ps row c ≡ Some (blocks_before ps p.origin + 0)
      number c c_in e = block_in ps row p c c_in ∙ ap (λ n. Some (blocks_before ps p.origin + n)) (full_block p.kind (cubelet_in ps row p c) e)

      by : (x y : Bool) → is_void p.kind (cubelet_in ps row p u) ≡ x → is_void p.kind (cubelet_in ps row p (cell_before a u)) ≡ y
          → block_of ps row u ≡ block_of ps row (cell_before a u)
      by true true e f = absurd (both_ways _ (ap (hole p.kind) next ∙ (hole_is_inner p.kind _ (void_at p (cell_before a u) f a)).next) (void_at p u e a))
      by true false e f = absurd (false≢true (sym (ap not e) ∙ told ∙ ap not f))
      by false true e f = absurd (false≢true (sym (ap not f) ∙ sym told ∙ ap not e))
      by false false e f = number u inside e ∙ sym (number (cell_before a u) before f)

  -- so where two neighbours are both full or both empty they are of one block
  same_block_beside : (u : Cell) (a : Axis) → full_at ps row u ≡ full_at ps row (cell_before a u) → block_of ps row u ≡ block_of ps row (cell_before a u)
  same_block_beside u a same = by (in_or_off ps row u) (in_or_off ps row (cell_before a u))
    where
      by : ((p : Cube) × IsIn ps row p u) ⊎ IsOff ps row u → ((p : Cube) × IsIn ps row p (cell_before a u)) ⊎ IsOff ps row (cell_before a u)
          → block_of ps row u ≡ block_of ps row (cell_before a u)
      by (inl (p, inside)) (inr off) = absurd (enters p u a inside off same)
      by (inr off) (inl (p, inside)) = absurd (leaves p u a off inside same)
      by (inr off) (inr off_too) = block_off ps row u off ∙ sym (block_off ps row (cell_before a u) off_too)
      by (inl (p, inside)) (inl (q, before)) =
          let one : q ≡ p = one_covers_next ps row q p (coordinate a u)
          (subst (Covers ps row q) (placed_at a (coordinate a u -ℤ pos 1) u) (before a)) (inside a) in
          within p u a inside (subst (λ r. IsIn ps row r (cell_before a u)) one before) same

  module _ (g : GridParts) (same : (a : Axis) → coordinates_of g a ≡ coordinates_of_ticks (row_ticks ps))
      (grid : IsGridOf (solid_drawing (row_cells ps)) g) (is : IsDrawing (solid_drawing (row_cells ps))) where
    step_keeps : (n m : Cell) → Passes (IsVirtual g) n m → block_of ps row n ≡ block_of ps row m
    step_keeps n m step = by step
      where
        flat : (a : Axis) (u : Cell) → (IsVirtual g a u → ⊥) → full_at ps row u ≡ full_at ps row (cell_before a u)
        flat = flat_unless_virtual (solid_drawing (row_cells ps)) g grid (row_cells ps) (row_matches ps row g same grid is) (full_at ps row)
            (full_on_grid ps row g same)

        by : Passes (IsVirtual g) n m → block_of ps row n ≡ block_of ps row m
        by (a, inl (at, none)) = same_block_beside n a (flat a n none) ∙ ap (block_of ps row) (sym at)
        by (a, inr (at, none)) = ap (block_of ps row) at ∙ sym (same_block_beside m a (flat a m none))

    -- and a chain stays in its block
    pub chain_keeps : (n m : Cell) → Joined g n m → block_of ps row n ≡ block_of ps row m
    chain_keeps n m chain = reaches-keeps (Passes (IsVirtual g)) (λ c. block_of ps row n ≡ block_of ps row c) (λ c d kept step. kept ∙ step_keeps c d step) n m refl chain
