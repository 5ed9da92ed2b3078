-- The ticks of a row of cubes, which are the same along each axis: the coordinates at which a part of a cube begins, or the
-- cube ends.
use Rattle.std.specs.Prelude.{◌+◌, ◌*◌, ◌≤◌, ◌&&◌, ◌==◌, Bool, false, not, ℕ, List, ◌∷◌, map, Option, Some, None, ℤ, pos}
use Rattle.std.specs.List.{flat_map, range_with_len}
use Rattle.lemmas.specs.Lists.{Each}
use Rattle.solid_model.specs.Panels.{PanelsStyles, GridParts}
use Rattle.drawing_maker.specs.declared.cube.Cube.{Cube}
use Rattle.drawing_maker.specs.declared.ticks.Part.{Part}
use Rattle.drawing_maker.specs.declared.ticks.Tick.{Tick}
use Rattle.drawing_maker.specs.Cubes.{cube_side, is_void}

-- so small that all its coordinates can be counted
abbrev pub IsSmall : Cube → Type 0
IsSmall p = (p.scale ≤ 9) × (p.origin ≤ 1000)

abbrev pub AreSmall : List Cube → Type 0
AreSmall ps = Each IsSmall ps

-- ---- ticks

-- where a cube begins: nothing lies before it
abbrev pub first_tick : Cube → Tick
first_tick p = record { at = p.origin; before = None }

-- where one of its places ends: that part lies before it
abbrev pub tick_after : Cube → ℕ → Tick
tick_after p k = record { at = p.origin + p.scale * (k + 1); before = Some (record { cube = p; place = k }) }

-- all ticks of a cube
abbrev pub cube_ticks : Cube → List Tick
cube_ticks p = first_tick p ∷ map (tick_after p) (range_with_len 0 (cube_side p.kind))

-- and those of a row
abbrev pub row_ticks : List Cube → List Tick
row_ticks ps = flat_map cube_ticks ps

-- the coordinates of ticks
abbrev pub coordinates_of_ticks : List Tick → List ℤ
coordinates_of_ticks ticks = map (λ s. pos s.at) ticks

-- the grid with these coordinates along each axis, whose segments have these styles
abbrev pub grid_over : List Tick → PanelsStyles → GridParts
grid_over ticks panels = record {
  xs = coordinates_of_ticks ticks;
  ys = coordinates_of_ticks ticks;
  zs = coordinates_of_ticks ticks;
  panels = panels;
}

-- ---- cells

-- the cell that lies in these parts along x, y and z is full: all three are of one cube, which the origins tell, and it
-- isn't a void of that cube
abbrev pub is_full_part : Part → Part → Part → Bool
is_full_part x y z = x.cube.origin == y.cube.origin
    && (y.cube.origin == z.cube.origin && not (is_void x.cube.kind (record { x = x.place; y = y.place; z = z.place })))

-- the same where nothing may lie along an axis
abbrev pub is_full_where : Option Part → Option Part → Option Part → Bool
is_full_where (Some x) (Some y) (Some z) = is_full_part x y z
is_full_where _ _ _ = false

-- the cell that lies before these ticks along x, y and z is full
abbrev pub is_full_before : Tick → Tick → Tick → Bool
is_full_before x y z = is_full_where x.before y.before z.before

-- those before each of the ticks along x
abbrev pub cells_in_line : List Tick → Tick → Tick → List Bool
cells_in_line ticks y z = map (λ x. is_full_before x y z) ticks

-- along x and y
abbrev pub cells_in_layer : List Tick → Tick → List Bool
cells_in_layer ticks z = flat_map (λ y. cells_in_line ticks y z) ticks

-- and along all three axes, z slowest and x fastest
abbrev pub cells_before : List Tick → List Bool
cells_before ticks = flat_map (cells_in_layer ticks) ticks
