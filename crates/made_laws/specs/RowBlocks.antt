-- The blocks of a row of cubes: of each cube its full cells together, and each of its voids.
use Rattle.std.specs.Prelude.{◌+◌, ◌&&◌, ◌==◌, Bool, nat_lt, ℕ, List, [], ◌∷◌, length, map, sum, Option, Some, None, if◌then◌else◌}
use Rattle.std.specs.List.{filter, flat_map}
use Rattle.drawing_maker.specs.declared.cube.Kind.{Kind}
use Rattle.drawing_maker.specs.declared.cube.Cube.{Cube}
use Rattle.drawing_maker.specs.declared.ticks.Part.{Part}
use Rattle.drawing_maker.specs.declared.ticks.Tick.{Tick}
use Rattle.drawing_maker.specs.Cubes.{Cubelet, cube_side, cubelets_in, is_void}

-- the voids of a kind at scale 1, z slowest and x fastest
abbrev pub void_cubelets : Kind → List Cubelet
void_cubelets kind = filter (is_void kind) (cubelets_in (cube_side kind))

-- how many blocks a cube of a kind has
abbrev pub block_count : Kind → ℕ
block_count kind = 1 + length (void_cubelets kind)

abbrev pub same_cubelet : Cubelet → Cubelet → Bool
same_cubelet a b = a.x == b.x && (a.y == b.y && a.z == b.z)

-- the place of a cubelet in a list
abbrev pub cubelet_place : List Cubelet → Cubelet → ℕ
cubelet_place [] c = 0
cubelet_place (s ∷ cubelets) c = if same_cubelet s c then 0 else 1 + cubelet_place cubelets c

-- the block of a cubelet in its cube: the first is that of the full cells, and then come the voids
abbrev pub cubelet_block : Kind → Cubelet → ℕ
cubelet_block kind c = if is_void kind c then 1 + cubelet_place (void_cubelets kind) c else 0

-- how many blocks the cubes of a row have that begin before a coordinate
abbrev pub blocks_before : List Cube → ℕ → ℕ
blocks_before [] origin = 0
blocks_before (p ∷ ps) origin = (if nat_lt p.origin origin then block_count p.kind else 0) + blocks_before ps origin

-- and all of them
abbrev pub row_block_count : List Cube → ℕ
row_block_count ps = sum (map (λ p. block_count p.kind) ps)

-- the block of the cell that lies in these parts along x, y and z, where all three are of one cube
abbrev pub part_block : List Cube → Part → Part → Part → Option ℕ
part_block ps x y z = if x.cube.origin == y.cube.origin && y.cube.origin == z.cube.origin
    then Some (blocks_before ps x.cube.origin + cubelet_block x.cube.kind (record { x = x.place; y = y.place; z = z.place })) else None

abbrev pub block_where : List Cube → Option Part → Option Part → Option Part → Option ℕ
block_where ps (Some x) (Some y) (Some z) = part_block ps x y z
block_where ps _ _ _ = None

-- the block of each of the cells that lie before these ticks, z slowest and x fastest
abbrev pub blocks_in_row : List Cube → List Tick → List (Option ℕ)
blocks_in_row ps ticks = flat_map (λ (z : Tick). flat_map (λ (y : Tick). map (λ (x : Tick). block_where ps x.before y.before z.before) ticks) ticks) ticks
