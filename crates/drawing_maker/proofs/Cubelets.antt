-- Which cells of a row of cubes are full: those in the enlarged full cubelets of a cube.
use Rattle.std.proofs.Common.{◌≡◌, Bool, true, false, not, ℕ, ◌+◌, ◌*◌, ◌<◌, List, map, ℤ, pos, ◌-ℤ◌, refl, ap, sym, subst, ◌∙◌, arith}
use Rattle.std.specs.List.{flat_map, range_with_len}
use Rattle.std.proofs.lemmas.Bool.{both_ways, false_from_ne_true, not-true, not_from_false}
use Rattle.std.proofs.lemmas.Int.{ints}
use Rattle.solid_model.specs.declared.cell.Axis.{Axis}
use Rattle.solid_model.specs.declared.cell.Axis.TheVariants.{X, Y, Z}
use Rattle.solid_model.specs.declared.cell.Cell.{Cell}
use Rattle.solid_model.specs.Cells.{coordinate, cell_at, is_full}
use Rattle.lemmas.specs.Lists.{Member}
use Rattle.solid_model.proofs.Fullness.{same_coordinates, is_full-member, member-is_full}
use Rattle.lemmas.proofs.Integers.{natural}
use Rattle.lemmas.proofs.Lists.{member-map, member-from_map, member-filter, member-from_filter}
use Rattle.drawing_maker.specs.declared.cube.Cube.{Cube}
use Rattle.drawing_maker.specs.Cubes.{Cubelet, cubelets_in, cube_side, is_void, full_cubelets, enlarged, cube_cells, row_cells}
use Rattle.lemmas.proofs.Concatenations.{member-flat_map, member-from_flat_map}
use Rattle.lemmas.proofs.Ranges.{member-range, member-from_range}
use Rattle.drawing_maker.proofs.Rows.{IsRow, Spans, LiesInPart, part_spans, one_part, one_cube}

-- ---- cubelets

-- the place of a cubelet along an axis
abbrev pub place_along : Axis → Cubelet → ℕ
place_along X s = s.x
place_along Y s = s.y
place_along Z s = s.z

-- it is one of a cube with this side
abbrev pub IsInside : ℕ → Cubelet → Type 0
IsInside side s = (a : Axis) → place_along a s < side

-- the cubelets of a row, and of a layer
abbrev cubelets_at : ℕ → ℕ → ℕ → Cubelet
cubelets_at z y x = record { x = x; y = y; z = z }

abbrev cubelets_along : ℕ → ℕ → ℕ → List Cubelet
cubelets_along side z y = map (cubelets_at z y) (range_with_len 0 side)

abbrev cubelets_across : ℕ → ℕ → List Cubelet
cubelets_across side z = flat_map (cubelets_along side z) (range_with_len 0 side)

pub member-cubelets_in : (side : ℕ) (s : Cubelet) → IsInside side s → Member (cubelets_in side) s
member-cubelets_in side s inside =
    let at = λ (k : ℕ) (l : k < side). member-range side 0 k (omega arith) (omega arith) in
    member-flat_map (cubelets_across side) (range_with_len 0 side) s.z s (at s.z (inside Z))
    (member-flat_map (cubelets_along side s.z) (range_with_len 0 side) s.y s (at s.y (inside Y))
    (member-map (cubelets_at s.z s.y) (range_with_len 0 side) s.x (at s.x (inside X))))

pub member-from_cubelets_in : (side : ℕ) (s : Cubelet) → Member (cubelets_in side) s → IsInside side s
member-from_cubelets_in side s k = inside
  where
    across : (z : ℕ) × Member (range_with_len 0 side) z × Member (cubelets_across side z) s
    across = member-from_flat_map (cubelets_across side) (range_with_len 0 side) s k

    along : (y : ℕ) × Member (range_with_len 0 side) y × Member (cubelets_along side across.0 y) s
    along = member-from_flat_map (cubelets_along side across.0) (range_with_len 0 side) s across.2

    cubelet : (x : ℕ) × Member (range_with_len 0 side) x × (cubelets_at across.0 along.0 x ≡ s)
    cubelet = member-from_map (cubelets_at across.0 along.0) (range_with_len 0 side) s along.2

    below : (j k : ℕ) → Member (range_with_len 0 side) j → j ≡ k → k < side
    below j k m e = let r = member-from_range side 0 j m in omega (arith, r.1)

    inside : (a : Axis) → place_along a s < side
    inside X = below cubelet.0 s.x cubelet.1 (ap (λ (t : Cubelet). t.x) cubelet.2)
    inside Y = below along.0 s.y along.1 (ap (λ (t : Cubelet). t.y) cubelet.2)
    inside Z = below across.0 s.z across.1 (ap (λ (t : Cubelet). t.z) cubelet.2)

-- ---- enlarged cubelets

-- the cell lies in the enlarged cubelet
abbrev pub LiesInCubelet : Cube → Cubelet → Cell → Type 0
LiesInCubelet p s c = (a : Axis) → LiesInPart p (place_along a s) (coordinate a c)

-- how far behind the beginning of a part a coordinate lies
offset_in : (p : Cube) (k : ℕ) (z : ℤ) → LiesInPart p k z → (u : ℕ) × (u < p.scale) × (pos (p.origin + p.scale * k + u) ≡ z)
offset_in p k z at =
    let d = natural (z -ℤ pos (p.origin + p.scale * k)) (omega (arith, ints, at.0)) in
    (d.0, omega (arith, ints, d.1, at.1), omega (arith, ints, d.1))

from_offset : (p : Cube) (k u : ℕ) → u < p.scale → LiesInPart p k (pos (p.origin + p.scale * k + u))
from_offset p k u l = (omega (arith, ints), omega (arith, ints))

-- the unit cell of an enlarged cubelet
abbrev cell_of_cubelet : Cube → Cubelet → Cubelet → Cell
cell_of_cubelet p s u = cell_at (p.origin + p.scale * s.x + u.x) (p.origin + p.scale * s.y + u.y) (p.origin + p.scale * s.z + u.z)

member-enlarged : (p : Cube) (s : Cubelet) (c : Cell) → LiesInCubelet p s c → Member (enlarged p s) c
member-enlarged p s c lies =
    subst (Member (enlarged p s)) (same_coordinates (cell_of_cubelet p s unit) c x.2 y.2 z.2)
    (member-map (cell_of_cubelet p s) (cubelets_in p.scale) unit (member-cubelets_in p.scale unit inside))
  where
    x : (u : ℕ) × (u < p.scale) × (pos (p.origin + p.scale * s.x + u) ≡ c.x)
    x = offset_in p s.x c.x (lies X)

    y : (u : ℕ) × (u < p.scale) × (pos (p.origin + p.scale * s.y + u) ≡ c.y)
    y = offset_in p s.y c.y (lies Y)

    z : (u : ℕ) × (u < p.scale) × (pos (p.origin + p.scale * s.z + u) ≡ c.z)
    z = offset_in p s.z c.z (lies Z)

    unit : Cubelet
    unit = record { x = x.0; y = y.0; z = z.0 }

    inside : IsInside p.scale unit
    inside X = x.1
    inside Y = y.1
    inside Z = z.1

member-from_enlarged : (p : Cube) (s : Cubelet) (c : Cell) → Member (enlarged p s) c → LiesInCubelet p s c
member-from_enlarged p s c k = lies
  where
    unit : (u : Cubelet) × Member (cubelets_in p.scale) u × (cell_of_cubelet p s u ≡ c)
    unit = member-from_map (cell_of_cubelet p s) (cubelets_in p.scale) c k

    inside : IsInside p.scale unit.0
    inside = member-from_cubelets_in p.scale unit.0 unit.1

    lies : (a : Axis) → LiesInPart p (place_along a s) (coordinate a c)
    lies X = subst (LiesInPart p s.x) (ap (λ (d : Cell). d.x) unit.2) (from_offset p s.x unit.0.x (inside X))
    lies Y = subst (LiesInPart p s.y) (ap (λ (d : Cell). d.y) unit.2) (from_offset p s.y unit.0.y (inside Y))
    lies Z = subst (LiesInPart p s.z) (ap (λ (d : Cell). d.z) unit.2) (from_offset p s.z unit.0.z (inside Z))

-- ---- full cells

-- the cell lies in a full cubelet of one of the cubes
pub record Fills (ps : List Cube) (c : Cell) : Type 0 where
  pub cube : Cube
  pub member : Member ps cube
  pub cubelet : Cubelet
  pub inside : IsInside (cube_side cube.kind) cubelet
  pub solid : is_void cube.kind cubelet ≡ false
  pub lies : LiesInCubelet cube cubelet c

pub full_from_filled : (ps : List Cube) (c : Cell) → Fills ps c → is_full (row_cells ps) c ≡ true
full_from_filled ps c f =
    let cubelets = member-filter (λ s. not (is_void f.cube.kind s)) (cubelets_in (cube_side f.cube.kind)) f.cubelet
    (member-cubelets_in (cube_side f.cube.kind) f.cubelet f.inside) (not_from_false (is_void f.cube.kind f.cubelet) f.solid) in
    member-is_full (row_cells ps) c (member-flat_map cube_cells ps f.cube c f.member
    (member-flat_map (enlarged f.cube) (full_cubelets f.cube.kind) f.cubelet c cubelets (member-enlarged f.cube f.cubelet c f.lies)))

pub filled_from_full : (ps : List Cube) (c : Cell) → is_full (row_cells ps) c ≡ true → Fills ps c
filled_from_full ps c e =
    let p = member-from_flat_map cube_cells ps c (is_full-member (row_cells ps) c e) in
    let s = member-from_flat_map (enlarged p.0) (full_cubelets p.0.kind) c p.2 in
    let kept = member-from_filter (λ t. not (is_void p.0.kind t)) (cubelets_in (cube_side p.0.kind)) s.0 s.1 in
    record {
      cube = p.0;
      member = p.1;
      cubelet = s.0;
      inside = member-from_cubelets_in (cube_side p.0.kind) s.0 kept.0;
      solid = not-true (is_void p.0.kind s.0) kept.1;
      lies = member-from_enlarged p.0 s.0 c s.2;
    }

module _ (ps : List Cube) (row : IsRow ps) where
  -- a full cell lies in the cube along each axis,
  pub filled_spans : (c : Cell) (f : Fills ps c) (a : Axis) → Spans f.cube (coordinate a c)
  filled_spans c f a = part_spans f.cube (place_along a f.cubelet) (coordinate a c) (f.inside a) (f.lies a)

  -- and no other cube does along any axis
  pub filled_by : (c : Cell) (f : Fills ps c) (p : Cube) → Member ps p → (a : Axis) → Spans p (coordinate a c) → f.cube ≡ p
  filled_by c f p k a at = one_cube ps row f.cube p (coordinate a c) f.member k (filled_spans c f a) at

  -- so a cell that lies in a cube along one axis and doesn't along another is empty
  pub empty_beside : (p : Cube) → Member ps p → (a b : Axis) (c : Cell) → Spans p (coordinate b c) → (Spans p (coordinate a c) → ⊥)
      → is_full (row_cells ps) c ≡ false
  empty_beside p k a b c at none = false_from_ne_true (is_full (row_cells ps) c) (λ e.
      let f = filled_from_full ps c e in
      none (subst (λ q. Spans q (coordinate a c)) (filled_by c f p k b at) (filled_spans c f a)))

  -- a cell in a cubelet of a cube is full unless the cubelet is a void
  pub full_in_cubelet : (p : Cube) → Member ps p → (s : Cubelet) → IsInside (cube_side p.kind) s → (c : Cell) → LiesInCubelet p s c
      → is_full (row_cells ps) c ≡ not (is_void p.kind s)
  full_in_cubelet p k s inside c lies = by (is_void p.kind s) refl
    where
      never : Fills ps c → is_void p.kind s ≡ true → ⊥
      never f e =
          let same : f.cube ≡ p = filled_by c f p k X (part_spans p s.x c.x (inside X) (lies X)) in
          let there : LiesInCubelet p f.cubelet c = subst (λ q. LiesInCubelet q f.cubelet c) same f.lies in
          let cubelet : f.cubelet ≡ s = λ t. record {
            x = one_part p f.cubelet.x s.x c.x (there X) (lies X) t;
            y = one_part p f.cubelet.y s.y c.y (there Y) (lies Y) t;
            z = one_part p f.cubelet.z s.z c.z (there Z) (lies Z) t;
          } in
          both_ways (is_void p.kind s) (sym (λ t. is_void (same t).kind (cubelet t)) ∙ f.solid) e

      by : (b : Bool) → is_void p.kind s ≡ b → is_full (row_cells ps) c ≡ not b
      by false e = full_from_filled ps c (record { cube = p; member = k; cubelet = s; inside = inside; solid = e; lies = lies })
      by true e = false_from_ne_true (is_full (row_cells ps) c) (λ full. never (filled_from_full ps c full) e)
