-- The solid of a row of cubes is the union of the cells before its ticks.
use Rattle.std.proofs.Common.{◌≡◌, ◌≢◌, ◌⊎◌, ⊎_elim, inl, inr, Bool, true, false, ◌&&◌, ◌==◌, not, ℕ, ◌+◌, ◌*◌, ◌-◌, ◌<◌, List, drop, length, get_or, slice_index_or, Option, Some, None, ℤ, pos, IsTrue, refl, ap, sym, subst, ◌∙◌, arith}
use Rattle.std.proofs.lemmas.Bool.{false_from_ne_true}
use Rattle.std.proofs.lemmas.Bool.Decides.{eqb_tells}
use Rattle.std.proofs.lemmas.Int.{ints}
use Rattle.std.proofs.lemmas.List.{length-map, length-drop}
use Rattle.solid_model.specs.declared.cell.Axis.{Axis}
use Rattle.solid_model.specs.declared.cell.Axis.TheVariants.{X, Y, Z}
use Rattle.solid_model.specs.declared.cell.Cell.{Cell}
use Rattle.solid_model.specs.Cells.{coordinate, is_full}
use Rattle.solid_model.specs.Grid.{is_in_gap, IsInSomeGap, Coordinates, GridCell, LiesInGridCell, LiesInGrid, gaps_along, grid_cell_place, IsUnionOf}
use Rattle.lemmas.specs.Lists.{Member}
use Rattle.solid_model.proofs.Gaps.{lies_in}
use Rattle.solid_model.proofs.InGrid.{some_gap_or_outside}
use Rattle.lemmas.proofs.Lists.{member-map}
use Rattle.drawing_maker.specs.declared.cube.Kind.{Kind}
use Rattle.drawing_maker.specs.declared.cube.Kind.TheVariants.{UnitCube, HollowCube, EightVoids}
use Rattle.drawing_maker.specs.declared.cube.Cube.{Cube}
use Rattle.drawing_maker.specs.declared.ticks.Part.{Part}
use Rattle.drawing_maker.specs.declared.ticks.Tick.{Tick}
use Rattle.drawing_maker.specs.Cubes.{cube_side, is_void, row_cells}
use Rattle.drawing_maker.specs.Rows.{first_tick, tick_after, cube_ticks, row_ticks, coordinates_of_ticks, is_full_where, is_full_before, cells_before}
use Rattle.lemmas.proofs.Concatenations.{member-flat_map, length-over_triples, get_or-over_triples}
use Rattle.lemmas.proofs.Ranges.{member-range}
use Rattle.drawing_maker.proofs.Rows.{end_of, IsRow, Spans, LiesInPart, part_spans, one_origin}
use Rattle.drawing_maker.proofs.RowTicks.{IsTold, before_at, ascends_row, told_in_gap}
use Rattle.drawing_maker.proofs.Cubelets.{IsInside, LiesInCubelet, filled_from_full, filled_spans, filled_by, full_in_cubelet}

-- ---- the cells by their places in the list

-- the cell before three ticks
pub cell_before_ticks : (ticks : List Tick) (i j k : ℕ) (d : Tick) → i < length ticks → j < length ticks → k < length ticks
    → get_or (cells_before ticks) ((k * length ticks + j) * length ticks + i) false ≡ is_full_before (get_or ticks i d) (get_or ticks j d) (get_or ticks k d)
cell_before_ticks ticks i j k d = get_or-over_triples is_full_before ticks ticks ticks i j k d d d false

-- how many they are
pub length-cells_before : (ticks : List Tick) → length (cells_before ticks) ≡ length ticks * (length ticks * length ticks)
length-cells_before ticks = length-over_triples is_full_before ticks ticks ticks

-- ---- full cells by what is told along each axis

pub has_side : (kind : Kind) → 0 < cube_side kind
has_side UnitCube = omega arith
has_side HollowCube = omega arith
has_side EightVoids = omega arith

module _ (ps : List Cube) (row : IsRow ps) where
  abbrev coordinates_along : List ℤ
  coordinates_along = coordinates_of_ticks (row_ticks ps)

  -- what is filled by a cube lies in it along each axis, so that parts of two cubes hold no full cell
  none_of_two : (u v : Cube) (a b : Axis) (c : Cell) → Member ps u → Member ps v → Spans u (coordinate a c) → Spans v (coordinate b c)
      → u.origin ≢ v.origin → is_full (row_cells ps) c ≡ false
  none_of_two u v a b c in_u in_v at_u at_v differ = false_from_ne_true (is_full (row_cells ps) c) (λ e.
      let f = filled_from_full ps c e in
      differ (ap (λ (p : Cube). p.origin) (sym (filled_by ps row c f u in_u a at_u) ∙ filled_by ps row c f v in_v b at_v)))

  full_in_parts : (u v w : Part) (c : Cell) → IsTold ps (Some u) c.x → IsTold ps (Some v) c.y → IsTold ps (Some w) c.z
      → u.cube ≡ v.cube → v.cube ≡ w.cube → is_full (row_cells ps) c ≡ not (is_void u.cube.kind (record { x = u.place; y = v.place; z = w.place }))
  full_in_parts u v w c at_x at_y at_z same also = full_in_cubelet ps row u.cube at_x.0 (record { x = u.place; y = v.place; z = w.place }) inside c lies
    where
      inside : IsInside (cube_side u.cube.kind) (record { x = u.place; y = v.place; z = w.place })
      inside X = at_x.1
      inside Y = subst (λ (p : Cube). v.place < cube_side p.kind) (sym same) at_y.1
      inside Z = subst (λ (p : Cube). w.place < cube_side p.kind) (sym (same ∙ also)) at_z.1

      lies : LiesInCubelet u.cube (record { x = u.place; y = v.place; z = w.place }) c
      lies X = at_x.2
      lies Y = subst (λ (p : Cube). LiesInPart p v.place c.y) (sym same) at_y.2
      lies Z = subst (λ (p : Cube). LiesInPart p w.place c.z) (sym (same ∙ also)) at_z.2

  -- a cell is full as the three parts that it lies in say
  pub full_where_told : (x y z : Option Part) (c : Cell) → IsTold ps x c.x → IsTold ps y c.y → IsTold ps z c.z → is_full (row_cells ps) c ≡ is_full_where x y z
  full_where_told None y z c at_x at_y at_z = false_from_ne_true (is_full (row_cells ps) c) (λ e.
      let f = filled_from_full ps c e in at_x f.cube f.member (filled_spans ps row c f X))
  full_where_told (Some u) None z c at_x at_y at_z = false_from_ne_true (is_full (row_cells ps) c) (λ e.
      let f = filled_from_full ps c e in at_y f.cube f.member (filled_spans ps row c f Y))
  full_where_told (Some u) (Some v) None c at_x at_y at_z = false_from_ne_true (is_full (row_cells ps) c) (λ e.
      let f = filled_from_full ps c e in at_z f.cube f.member (filled_spans ps row c f Z))
  full_where_told (Some u) (Some v) (Some w) c at_x at_y at_z = by (eqb_tells u.cube.origin v.cube.origin) (eqb_tells v.cube.origin w.cube.origin)
    where
      solid : Bool
      solid = not (is_void u.cube.kind (record { x = u.place; y = v.place; z = w.place }))

      by : ((u.cube.origin == v.cube.origin) ≡ true) × (u.cube.origin ≡ v.cube.origin) ⊎ ((u.cube.origin == v.cube.origin) ≡ false) × (u.cube.origin ≢ v.cube.origin)
          → ((v.cube.origin == w.cube.origin) ≡ true) × (v.cube.origin ≡ w.cube.origin) ⊎ ((v.cube.origin == w.cube.origin) ≡ false) × (v.cube.origin ≢ w.cube.origin)
          → is_full (row_cells ps) c ≡ ((u.cube.origin == v.cube.origin) && ((v.cube.origin == w.cube.origin) && solid))
      by (inr e) f = none_of_two u.cube v.cube X Y c at_x.0 at_y.0 (part_spans u.cube u.place c.x at_x.1 at_x.2) (part_spans v.cube v.place c.y at_y.1 at_y.2) e.1
          ∙ sym (λ t. e.0 t && ((v.cube.origin == w.cube.origin) && solid))
      by (inl e) (inr f) = none_of_two v.cube w.cube Y Z c at_y.0 at_z.0 (part_spans v.cube v.place c.y at_y.1 at_y.2) (part_spans w.cube w.place c.z at_z.1 at_z.2) f.1
          ∙ sym (λ t. e.0 t && (f.0 t && solid))
      by (inl e) (inl f) = full_in_parts u v w c at_x at_y at_z (one_origin ps row u.cube v.cube at_x.0 at_y.0 e.1) (one_origin ps row v.cube w.cube at_y.0 at_z.0 f.1)
          ∙ sym (λ t. e.0 t && (f.0 t && solid))

  -- what lies in a cube lies in some gap: between its first and its last tick
  pub in_gap_of_row : (p : Cube) → Member ps p → (z : ℤ) → Spans p z → IsInSomeGap coordinates_along z
  in_gap_of_row p k z at = ⊎_elim {C = IsInSomeGap coordinates_along z} (λ gap. gap)
      (λ out. absurd (⊎_elim {C = ⊥} (λ beyond. let l = beyond (pos p.origin) first in omega (arith, ints, at.0))
      (λ behind. let l = behind (pos last.at) end in omega (arith, ints, at.1, ends)) out))
      (some_gap_or_outside coordinates_along (ascends_row ps row) z)
    where
      has : 0 < cube_side p.kind
      has = has_side p.kind

      last : Tick
      last = tick_after p (cube_side p.kind - 1)

      ends : last.at ≡ end_of p
      ends = let e : cube_side p.kind - 1 + 1 ≡ cube_side p.kind = omega (arith, has) in ap (λ n. p.origin + p.scale * n) e

      first : Member coordinates_along (pos p.origin)
      first = member-map (λ (s : Tick). pos s.at) (row_ticks ps) (first_tick p) (member-flat_map cube_ticks ps p (first_tick p) k (inl refl))

      end : Member coordinates_along (pos last.at)
      end = member-map (λ (s : Tick). pos s.at) (row_ticks ps) last (member-flat_map cube_ticks ps p last k
          (inr (member-map (tick_after p) _ (cube_side p.kind - 1) (member-range (cube_side p.kind) 0 (cube_side p.kind - 1) (omega arith) (omega (arith, has))))))

  -- ---- the union

  module _ (coordinates : Coordinates) (same : (a : Axis) → coordinates a ≡ coordinates_along) where
    abbrev ticks_behind : List Tick
    ticks_behind = drop 1 (row_ticks ps)

    pub gaps_are : (a : Axis) → gaps_along coordinates a ≡ length ticks_behind
    gaps_are a = ap (λ zs. length zs - 1) (same a) ∙ ap (λ n. n - 1) (length-map (row_ticks ps) (λ (s : Tick). pos s.at)) ∙ sym (length-drop 1 (row_ticks ps))

    pub union_of_row : IsUnionOf coordinates (cells_before ticks_behind) (is_full (row_cells ps))
    union_of_row = record { inside = inside; outside = outside }
      where
        in_gap : (n : GridCell) (c : Cell) → LiesInGridCell coordinates n c → (a : Axis) → IsTrue (is_in_gap coordinates_along (n a) (coordinate a c))
        in_gap n c lies a = subst (λ zs. IsTrue (is_in_gap zs (n a) (coordinate a c))) (same a) (lies a)

        told : (n : GridCell) (c : Cell) → LiesInGridCell coordinates n c → (a : Axis) → IsTold ps (before_at (row_ticks ps) (n a)) (coordinate a c)
        told n c lies a = told_in_gap ps row (n a) (coordinate a c) (in_gap n c lies a)

        within : (n : GridCell) (c : Cell) → LiesInGridCell coordinates n c → (a : Axis) → n a < length ticks_behind
        within n c lies a = let l = (lies_in coordinates_along (n a) (coordinate a c) (in_gap n c lies a)).within in
            omega (arith, l, length-map (row_ticks ps) (λ (s : Tick). pos s.at), length-drop 1 (row_ticks ps))

        inside : (n : GridCell) (c : Cell) → LiesInGridCell coordinates n c
            → is_full (row_cells ps) c ≡ slice_index_or (cells_before ticks_behind) (grid_cell_place coordinates n) false
        inside n c lies =
            full_where_told _ _ _ c (told n c lies X) (told n c lies Y) (told n c lies Z)
            ∙ sym (cell_before_ticks ticks_behind (n X) (n Y) (n Z) (record { at = 0; before = None }) (within n c lies X) (within n c lies Y) (within n c lies Z))
            ∙ sym (λ t. get_or (cells_before ticks_behind) ((n Z * gaps_are Y t + n Y) * gaps_are X t + n X) false)

        outside : (c : Cell) → (LiesInGrid coordinates c → ⊥) → is_full (row_cells ps) c ≡ false
        outside c none = false_from_ne_true (is_full (row_cells ps) c) (λ e.
            let f = filled_from_full ps c e in
            none (λ a. subst (λ zs. IsInSomeGap zs (coordinate a c)) (sym (same a)) (in_gap_of_row f.cube f.member (coordinate a c) (filled_spans ps row c f a))))
