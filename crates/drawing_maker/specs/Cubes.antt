-- The cubes of made solids: they stand along the diagonal, some with voids, each enlarged.
use Rattle.std.specs.Prelude.{◌+◌, ◌*◌, ◌&&◌, ◌||◌, ◌==◌, Bool, false, not, ℕ, List, map}
use Rattle.std.specs.List.{filter, flat_map, range_with_len}
use Rattle.solid_model.specs.declared.cell.Cell.{Cell}
use Rattle.solid_model.specs.Cells.{cell_at}
use Rattle.drawing_maker.specs.declared.cube.Kind.{Kind}
use Rattle.drawing_maker.specs.declared.cube.Kind.TheVariants.{UnitCube, HollowCube, EightVoids}
use Rattle.drawing_maker.specs.declared.cube.Cube.{Cube}

-- a cubelet: a cell of a cube at scale 1, by its place along each axis
pub record Cubelet : Type 0 where
  pub x : ℕ
  pub y : ℕ
  pub z : ℕ

-- the side of a kind at scale 1
abbrev pub cube_side : Kind → ℕ
cube_side UnitCube = 1
cube_side HollowCube = 3
cube_side EightVoids = 5

-- all cubelets of a cube with this side
abbrev pub cubelets_in : ℕ → List Cubelet
cubelets_in side = flat_map (λ z. flat_map (λ y. map (λ x. record { x = x; y = y; z = z }) (range_with_len 0 side)) (range_with_len 0 side)) (range_with_len 0 side)

-- 1 or 3
abbrev pub is_odd_place : ℕ → Bool
is_odd_place k = k == 1 || k == 3

-- The cells of a kind at scale 1 that are empty: none of the unit cube; the middle one of the hollow cube; of the cube with
-- eight voids those whose places are each 1 or 3.
abbrev pub is_void : Kind → Cubelet → Bool
is_void UnitCube c = false
is_void HollowCube c = c.x == 1 && (c.y == 1 && c.z == 1)
is_void EightVoids c = is_odd_place c.x && (is_odd_place c.y && is_odd_place c.z)

-- and those that are full
abbrev pub full_cubelets : Kind → List Cubelet
full_cubelets kind = filter (λ c. not (is_void kind c)) (cubelets_in (cube_side kind))

-- where the next cube begins: behind a gap of 1
abbrev pub next_origin : Cube → ℕ
next_origin p = p.origin + p.scale * cube_side p.kind + 1

-- the unit cells of one of its cells, enlarged
abbrev pub enlarged : Cube → Cubelet → List Cell
enlarged p c = map (λ u. cell_at (p.origin + p.scale * c.x + u.x) (p.origin + p.scale * c.y + u.y) (p.origin + p.scale * c.z + u.z)) (cubelets_in p.scale)

-- the unit cells of a cube
abbrev pub cube_cells : Cube → List Cell
cube_cells p = flat_map (enlarged p) (full_cubelets p.kind)

-- the solid that is a row of cubes
abbrev pub row_cells : List Cube → List Cell
row_cells ps = flat_map cube_cells ps
