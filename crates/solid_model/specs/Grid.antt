-- The grid of a drawing: the positions along each axis at which it shows something, and the cells between them. Where a
-- solid edge goes on as a hidden one the style changes, so that this is a position too.
use Rattle.std.specs.Prelude.{◌≡◌, ◌≢◌, ◌⊎◌, ◌↔◌, Bool, false, not, ◌&&◌, ℕ, zero, suc, ◌+◌, ◌-◌, ◌*◌, ◌<◌, List, [], ◌∷◌, length, slice_index_or, ℤ, pos, ◌-ℤ◌, ◌<ℤ◌, int_lt, int_le, IsTrue}
use Rattle.solid_model.specs.declared.cell.Axis.{Axis}
use Rattle.solid_model.specs.declared.cell.Axis.TheVariants.{X, Y, Z}
use Rattle.solid_model.specs.declared.cell.Cell.{Cell}
use Rattle.solid_model.specs.declared.frame.View.{View}
use Rattle.solid_model.specs.declared.segment.Segment.{Segment}
use Rattle.solid_model.specs.declared.segment.Style.{Style}
use Rattle.solid_model.specs.declared.segment.Style.TheVariants.{Blank}
use Rattle.solid_model.specs.Cells.{coordinate}
use Rattle.solid_model.specs.Frames.{frame_of, along}
use Rattle.solid_model.specs.Limits.{most_grid_coordinates}
use Rattle.lemmas.specs.Lists.{Member, Ascends}
use Rattle.solid_model.specs.Segments.{segment_at}

-- ---- grid coordinates

-- in a view something is drawn on the line at z, across the level or the upright way
abbrev pub IsDrawnAcross : (Segment → Style) → View → Bool → ℤ → Type 0
IsDrawnAcross drawing v upright z = (start : ℤ) × (drawing (segment_at v (not upright) start z) ≢ Blank)

-- along some line of that way the style changes at z; a change from Blank counts
abbrev pub ChangesAt : (Segment → Style) → View → Bool → ℤ → Type 0
ChangesAt drawing v upright z = (line : ℤ) × (drawing (segment_at v upright (z -ℤ pos 1) line) ≢ drawing (segment_at v upright z line))

-- Z is a grid coordinate of an axis: a view that shows the axis, to the right or upwards, shows something on the line at z
-- across it, or the style changes at z along a line parallel to it.
abbrev pub IsGridCoordinate : (Segment → Style) → Axis → ℤ → Type 0
IsGridCoordinate drawing a z = (v : View) × (upright : Bool) × ((along (frame_of v) upright).axis ≡ a)
    × (IsDrawnAcross drawing v upright z ⊎ ChangesAt drawing v upright z)

-- the grid coordinates of an axis, each once, in order
pub record AreGridCoordinates (drawing : Segment → Style) (a : Axis) (zs : List ℤ) : Type 0 where
  pub ordered : Ascends ◌<ℤ◌ zs
  pub exact : (z : ℤ) → Member zs z ↔ IsGridCoordinate drawing a z

-- ---- the cells between them

-- z lies in the gap of this number in a list, counted from 0: from a member up to but without the next one
abbrev pub is_in_gap : List ℤ → ℕ → ℤ → Bool
is_in_gap [] n z = false
is_in_gap (a ∷ []) n z = false
is_in_gap (a ∷ b ∷ zs) zero z = int_le a z && int_lt z b
is_in_gap (a ∷ b ∷ zs) (suc n) z = is_in_gap (b ∷ zs) n z

-- z lies in some gap of the list
abbrev pub IsInSomeGap : List ℤ → ℤ → Type 0
IsInSomeGap zs z = (n : ℕ) × IsTrue (is_in_gap zs n z)

-- the coordinates of a grid along each axis, and one of its cells, by its number along each axis
abbrev pub Coordinates : Type 0
Coordinates = Axis → List ℤ

abbrev pub GridCell : Type 0
GridCell = Axis → ℕ

-- a unit cell lies in the grid cell
abbrev pub LiesInGridCell : Coordinates → GridCell → Cell → Type 0
LiesInGridCell coordinates n c = (a : Axis) → IsTrue (is_in_gap (coordinates a) (n a) (coordinate a c))

-- a unit cell lies in the box of all grid cells
abbrev pub LiesInGrid : Coordinates → Cell → Type 0
LiesInGrid coordinates c = (a : Axis) → IsInSomeGap (coordinates a) (coordinate a c)

-- how many grid cells there are along an axis
abbrev pub gaps_along : Coordinates → Axis → ℕ
gaps_along coordinates a = length (coordinates a) - 1

-- how many there are in all
abbrev pub grid_cell_count : Coordinates → ℕ
grid_cell_count coordinates = gaps_along coordinates Z * gaps_along coordinates Y * gaps_along coordinates X

-- the place of a grid cell in a list of all of them, z slowest and x fastest
abbrev pub grid_cell_place : Coordinates → GridCell → ℕ
grid_cell_place coordinates n = (n Z * gaps_along coordinates Y + n Y) * gaps_along coordinates X + n X

-- the solid is the union of the grid cells that are chosen in such a list
pub record IsUnionOf (coordinates : Coordinates) (chosen : List Bool) (full : Cell → Bool) : Type 0 where
  pub inside : (n : GridCell) (c : Cell) → LiesInGridCell coordinates n c → full c ≡ slice_index_or chosen (grid_cell_place coordinates n) false
  pub outside : (c : Cell) → (LiesInGrid coordinates c → ⊥) → full c ≡ false

-- ---- too many coordinates

-- an axis has more grid coordinates than a grid may have, and this is their number
abbrev pub IsTooFine : (Segment → Style) → Axis → ℕ → Type 0
IsTooFine drawing a count = (zs : List ℤ) × AreGridCoordinates drawing a zs × (length zs ≡ count) × (most_grid_coordinates < count)

-- an axis has few enough of them
abbrev pub IsFineEnough : (Segment → Style) → Axis → Type 0
IsFineEnough drawing a = (count : ℕ) → IsTooFine drawing a count → ⊥

-- the first axis with too many of them, in the order x, y, z, and their number
abbrev pub IsFirstTooFine : (Segment → Style) → Axis → ℕ → Type 0
IsFirstTooFine drawing X count = IsTooFine drawing X count
IsFirstTooFine drawing Y count = IsFineEnough drawing X × IsTooFine drawing Y count
IsFirstTooFine drawing Z count = IsFineEnough drawing X × IsFineEnough drawing Y × IsTooFine drawing Z count
