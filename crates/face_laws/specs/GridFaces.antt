-- The faces of a solid that is made of grid cells, by the faces of the solid of their numbers. Counted by number, grid cells are
-- unit cells once more, and so make a solid of their own.
use Rattle.std.specs.Prelude.{◌≡◌, Bool, false, ◌&&◌, ℕ, zero, suc, List, [], ◌∷◌, map, slice_index_or, ℤ, pos, negsuc, ◌+ℤ◌, ◌-ℤ◌, ◌≤ℤ◌, ◌<ℤ◌}
use Rattle.solid_model.specs.declared.cell.Axis.{Axis}
use Rattle.solid_model.specs.declared.cell.Axis.TheVariants.{X, Y, Z}
use Rattle.solid_model.specs.declared.cell.Cell.{Cell}
use Rattle.solid_model.specs.Cells.{coordinate}
use Rattle.solid_model.specs.Faces.{outward, FaceParts}
use Rattle.solid_model.specs.Grid.{Coordinates, gaps_along}
use Rattle.solid_model.specs.WalledBoxes.{is_within, box_place}

-- for each axis where the planes across it stand, by their numbers
abbrev pub Planes : Type 0
Planes = Axis → ℤ → ℤ

-- the grid point of these numbers
abbrev pub point_of_numbers : Planes → Cell → Cell
point_of_numbers planes n = record { x = planes X n.x; y = planes Y n.y; z = planes Z n.z }

-- a unit cell lies in the grid cell of these numbers
abbrev pub LiesInNumbered : Planes → Cell → Cell → Type 0
LiesInNumbered planes n c = (a : Axis) → (planes a (coordinate a n) ≤ℤ coordinate a c) × (coordinate a c <ℤ planes a (coordinate a n +ℤ pos 1))

-- the full unit cells are those of the full grid cells, which are told by their numbers
abbrev pub AreCellsOf : Planes → (Cell → Bool) → (Cell → Bool) → Type 0
AreCellsOf planes numbered full = (n c : Cell) → LiesInNumbered planes n c → full c ≡ numbered n

-- a face of the solid of numbers, as it stands in space
abbrev pub face_in_space : Planes → FaceParts → FaceParts
face_in_space planes f = record { out = f.out; at = planes (outward f.out).axis f.at; loops = map (map (point_of_numbers planes)) f.loops }

-- ---- planes at coordinates

-- the coordinate of a number from z on: z, then those of a list, and beyond them one at each whole number
abbrev pub coordinate_from : ℤ → List ℤ → ℕ → ℤ
coordinate_from z zs zero = z
coordinate_from z [] (suc n) = coordinate_from (z +ℤ pos 1) [] n
coordinate_from z (w ∷ zs) (suc n) = coordinate_from w zs n

-- the planes at the coordinates of a list, numbered from 0, and on both sides of them one at each whole number
abbrev pub planes_at : List ℤ → ℤ → ℤ
planes_at [] k = k
planes_at (z ∷ zs) (pos n) = coordinate_from z zs n
planes_at (z ∷ zs) (negsuc n) = z -ℤ pos (suc n)

-- those of a grid
abbrev pub grid_planes : Coordinates → Planes
grid_planes coordinates a = planes_at (coordinates a)

-- the full cells of the solid of numbers, where a list tells of each grid cell whether it is chosen, z slowest and x fastest
abbrev pub numbered_fullness : Coordinates → List Bool → Cell → Bool
numbered_fullness coordinates chosen n = is_within (gaps_along coordinates) n && slice_index_or chosen (box_place (gaps_along coordinates) n) false
