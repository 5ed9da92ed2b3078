-- Each coordinate of a row of cubes is a grid coordinate of its drawing: some cell there differs from the one before it.
use Rattle.std.proofs.Common.{◌≡◌, ◌≢◌, inl, inr, Bool, true, false, ◌&&◌, ◌||◌, ◌==◌, not, nat_lt, ℕ, zero, suc, ◌+◌, ◌*◌, ◌<◌, ◌≤◌, List, ℤ, pos, ◌-ℤ◌, ◌<ℤ◌, IsTrue, if◌then◌else◌, refl, ap, sym, subst, ◌∙◌, arith}
use Rattle.std.specs.List.{range_with_len}
use Rattle.std.proofs.lemmas.Bool.{false≢true, and_parts, cases_lt, ltb-true}
use Rattle.std.proofs.lemmas.Int.{ints}
use Rattle.solid_model.specs.declared.cell.Axis.{Axis}
use Rattle.solid_model.specs.declared.cell.Axis.TheVariants.{X, Y, Z}
use Rattle.solid_model.specs.declared.cell.Cell.{Cell}
use Rattle.solid_model.specs.Cells.{coordinate, cell_before, is_full}
use Rattle.solid_model.specs.DrawnStyle.{solid_drawing}
use Rattle.lemmas.specs.Truth.{agree}
use Rattle.solid_model.specs.Edges.{second_axis}
use Rattle.solid_model.specs.Grid.{IsGridCoordinate}
use Rattle.lemmas.specs.Lists.{Member, Each}
use Rattle.lemmas.proofs.Lists.{member-from_map, each-at}
use Rattle.drawing_maker.specs.declared.cube.Kind.{Kind}
use Rattle.drawing_maker.specs.declared.cube.Kind.TheVariants.{UnitCube, HollowCube, EightVoids}
use Rattle.drawing_maker.specs.declared.cube.Cube.{Cube}
use Rattle.drawing_maker.specs.declared.ticks.Tick.{Tick}
use Rattle.drawing_maker.specs.Cubes.{Cubelet, cube_side, is_void, row_cells}
use Rattle.drawing_maker.specs.Rows.{row_ticks, coordinates_of_ticks}
use Rattle.drawing_maker.proofs.DrawnAcross.{coordinate_between}
use Rattle.lemmas.proofs.Ranges.{member-range}
use Rattle.drawing_maker.proofs.Rows.{IsRow, Spans, LiesInPart, scaled, part_spans}
use Rattle.drawing_maker.proofs.RowTicks.{tick_in_cube, tick_in_row}
use Rattle.drawing_maker.proofs.Cubelets.{place_along, empty_beside, full_in_cubelet}

-- ---- one place along an axis, another across it

-- the cubelet with the place i along an axis and j along the two others
abbrev pub cubelet_with : Axis → ℕ → ℕ → Cubelet
cubelet_with X i j = record { x = i; y = j; z = j }
cubelet_with Y i j = record { x = j; y = i; z = j }
cubelet_with Z i j = record { x = j; y = j; z = i }

-- and the cell with these coordinates
abbrev pub cell_with : Axis → ℤ → ℤ → Cell
cell_with X z w = record { x = z; y = w; z = w }
cell_with Y z w = record { x = w; y = z; z = w }
cell_with Z z w = record { x = w; y = w; z = z }

-- what holds of both holds along each axis
along_each : (P : ℕ → ℤ → Type 0) (i j : ℕ) (z w : ℤ) → P i z → P j w → (a b : Axis) → P (place_along b (cubelet_with a i j)) (coordinate b (cell_with a z w))
along_each P i j z w h k X X = h
along_each P i j z w h k X Y = k
along_each P i j z w h k X Z = k
along_each P i j z w h k Y X = k
along_each P i j z w h k Y Y = h
along_each P i j z w h k Y Z = k
along_each P i j z w h k Z X = k
along_each P i j z w h k Z Y = k
along_each P i j z w h k Z Z = h

along_it : (a : Axis) (z w : ℤ) → coordinate a (cell_with a z w) ≡ z
along_it X z w = refl
along_it Y z w = refl
along_it Z z w = refl

across_it : (a : Axis) (z w : ℤ) → coordinate (second_axis a) (cell_with a z w) ≡ w
across_it X z w = refl
across_it Y z w = refl
across_it Z z w = refl

before_it : (a : Axis) (z w : ℤ) → cell_before a (cell_with a z w) ≡ cell_with a (z -ℤ pos 1) w
before_it X z w = refl
before_it Y z w = refl
before_it Z z w = refl

-- ---- full and empty places along a line

-- Along a line at the place j across an axis: before the cube, at 0, nothing is full; at suc i its place i; behind it nothing.
abbrev pub is_full_along : Kind → Axis → ℕ → ℕ → Bool
is_full_along kind a j zero = false
is_full_along kind a j (suc i) = nat_lt i (cube_side kind) && not (is_void kind (cubelet_with a i j))

-- the line on which the place before a tick and the one behind it differ: along the border at the first and the last tick, and
-- else through the place 1, where the voids stand
abbrev pub telling_line : Kind → ℕ → ℕ
telling_line kind k = if k == 0 || k == cube_side kind then 0 else 1

-- on that line, which the cube has, they do differ
abbrev tells : Kind → Axis → ℕ → Bool
tells kind a k = nat_lt (telling_line kind k) (cube_side kind)
    && not (agree (is_full_along kind a (telling_line kind k) k) (is_full_along kind a (telling_line kind k) (suc k)))

-- at each tick
each_tells : (kind : Kind) (a : Axis) → Each (λ k. IsTrue (tells kind a k)) (range_with_len 0 (suc (cube_side kind)))
each_tells UnitCube X = (refl, (refl, tt))
each_tells UnitCube Y = (refl, (refl, tt))
each_tells UnitCube Z = (refl, (refl, tt))
each_tells HollowCube X = (refl, (refl, (refl, (refl, tt))))
each_tells HollowCube Y = (refl, (refl, (refl, (refl, tt))))
each_tells HollowCube Z = (refl, (refl, (refl, (refl, tt))))
each_tells EightVoids X = (refl, (refl, (refl, (refl, (refl, (refl, tt))))))
each_tells EightVoids Y = (refl, (refl, (refl, (refl, (refl, (refl, tt))))))
each_tells EightVoids Z = (refl, (refl, (refl, (refl, (refl, (refl, tt))))))

pub differ_from_tells : (x y : Bool) → not (agree x y) ≡ true → x ≢ y
differ_from_tells true true e = absurd (false≢true e)
differ_from_tells true false e = λ same. false≢true (sym same)
differ_from_tells false true e = false≢true
differ_from_tells false false e = absurd (false≢true e)

-- ---- cells of a row

-- a coordinate lies before the cube, or in its place i, or behind it
abbrev LiesAt : Cube → ℕ → ℤ → Type 0
LiesAt p zero z = z <ℤ pos p.origin
LiesAt p (suc i) z = LiesInPart p i z

-- behind a tick that place begins, and before it the place before ends
at_tick : (p : Cube) (k : ℕ) → 0 < p.scale → LiesAt p (suc k) (pos (p.origin + p.scale * k))
at_tick p k sized = (omega (arith, ints), (let e = scaled p 1 1 (omega arith) in omega (arith, ints)))

before_tick : (p : Cube) (k : ℕ) → 0 < p.scale → LiesAt p k (pos (p.origin + p.scale * k) -ℤ pos 1)
before_tick p zero sized = omega (arith, ints)
before_tick p (suc k) sized = (omega (arith, ints), omega (arith, ints))

module _ (ps : List Cube) (row : IsRow ps) (p : Cube) (k : Member ps p) (a : Axis) (j : ℕ) (w : ℤ) (inside : j < cube_side p.kind) (lies : LiesInPart p j w) where
  across_spans : (z : ℤ) → Spans p (coordinate (second_axis a) (cell_with a z w))
  across_spans z = subst (Spans p) (sym (across_it a z w)) (part_spans p j w inside lies)

  outside : (z : ℤ) → (Spans p z → ⊥) → is_full (row_cells ps) (cell_with a z w) ≡ false
  outside z none = empty_beside ps row p k a (second_axis a) (cell_with a z w) (across_spans z) (λ spans. none (subst (Spans p) (along_it a z w) spans))

  -- on a line in a cube a cell is full as the cube's kind says
  pub full_along : (n : ℕ) (z : ℤ) → LiesAt p n z → is_full (row_cells ps) (cell_with a z w) ≡ is_full_along p.kind a j n
  full_along zero z at = outside z (λ spans. omega (arith, ints, spans.0))
  full_along (suc i) z at = elim (cases_lt i (cube_side p.kind)) as (λ _. is_full (row_cells ps) (cell_with a z w) ≡ is_full_along p.kind a j (suc i)) [
    | inl l ↦ (let yes : nat_lt i (cube_side p.kind) ≡ true = grind (arith, l) in
        full_in_cubelet ps row p k (cubelet_with a i j) (along_each (λ n _. n < cube_side p.kind) i j z w l inside a) (cell_with a z w) (along_each (LiesInPart p) i j z w at lies a)
        ∙ sym (ap (λ b. b && not (is_void p.kind (cubelet_with a i j))) yes))
    | inr l ↦ (let no : nat_lt i (cube_side p.kind) ≡ false = grind (arith, l) in
        outside z (λ spans. let e = scaled p (cube_side p.kind) i l in omega (arith, ints, spans.1, at.0, e))
        ∙ sym (ap (λ b. b && not (is_void p.kind (cubelet_with a i j))) no))
  ]

module _ (ps : List Cube) (row : IsRow ps) where
  -- at a tick of a cube, on the telling line, a cell differs from the one before it
  pub differs_at_tick : (p : Cube) → Member ps p → (a : Axis) (k : ℕ) → k ≤ cube_side p.kind
      → (c : Cell) × (coordinate a c ≡ pos (p.origin + p.scale * k)) × (is_full (row_cells ps) (cell_before a c) ≢ is_full (row_cells ps) c)
  differs_at_tick p m a k l = (
    cell_with a z w,
    along_it a z w,
    λ same. differ_from_tells _ _ parts.1 (sym (full_along ps row p m a j w inside line k (z -ℤ pos 1) (before_tick p k sized))
        ∙ ap (is_full (row_cells ps)) (sym (before_it a z w)) ∙ same
        ∙ full_along ps row p m a j w inside line (suc k) z (at_tick p k sized)),
  )
    where
      sized : 0 < p.scale
      sized = each-at (λ (q : Cube). 0 < q.scale) ps p row.sized m

      j : ℕ
      j = telling_line p.kind k

      z : ℤ
      z = pos (p.origin + p.scale * k)

      w : ℤ
      w = pos (p.origin + p.scale * j)

      parts : (nat_lt j (cube_side p.kind) ≡ true) × (not (agree (is_full_along p.kind a j k) (is_full_along p.kind a j (suc k))) ≡ true)
      parts = and_parts _ _ (each-at (λ n. IsTrue (tells p.kind a n)) (range_with_len 0 (suc (cube_side p.kind))) k (each_tells p.kind a)
          (member-range (suc (cube_side p.kind)) 0 k (omega arith) (omega arith)))

      inside : j < cube_side p.kind
      inside = ltb-true j (cube_side p.kind) parts.0

      line : LiesInPart p j w
      line = at_tick p j sized

  -- so each coordinate of the row is a grid coordinate of its drawing
  pub row_coordinate : (a : Axis) (z : ℤ) → Member (coordinates_of_ticks (row_ticks ps)) z → IsGridCoordinate (solid_drawing (row_cells ps)) a z
  row_coordinate a z k =
      let s = member-from_map (λ (t : Tick). pos t.at) (row_ticks ps) z k in
      let p = tick_in_row ps s.0 s.1 in
      let at = tick_in_cube p.0 s.0 p.2 in
      let d = differs_at_tick p.0 p.1 a at.0 at.1 in
      subst (IsGridCoordinate (solid_drawing (row_cells ps)) a) (d.1 ∙ ap pos (sym at.2) ∙ s.2)
      (coordinate_between (row_cells ps) a d.0 d.2)
