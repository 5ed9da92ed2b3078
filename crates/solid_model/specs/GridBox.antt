-- A grid as a box of cells. Counted by its own coordinates, a grid is once more a box of cells from (0, 0, 0): the grid cell
-- (x, y, z) reaches from the x-th coordinate of the x axis to the next one, and so along y and z, and the grid point
-- (x, y, z) is its least corner. The axis of a grid edge or face is a parameter beside its number, so that edges and faces
-- are numbered as cells are.
use Rattle.std.specs.Prelude.{◌≡◌, Bool, false, ◌&&◌, suc, ◌+◌, ◌*◌, nat_lt, List, slice_index_or, ℤ, pos, IsTrue, if◌then◌else◌}
use Rattle.solid_model.specs.declared.cell.Axis.{Axis}
use Rattle.solid_model.specs.declared.cell.Cell.{Cell}
use Rattle.solid_model.specs.declared.frame.View.{View}
use Rattle.solid_model.specs.declared.segment.Style.{Style}
use Rattle.solid_model.specs.declared.segment.Style.TheVariants.{Blank}
use Rattle.solid_model.specs.Cells.{coordinate, is_full}
use Rattle.solid_model.specs.Frames.{frame_of, along, across}
use Rattle.solid_model.specs.Grid.{GridCell, LiesInGridCell, gaps_along}
use Rattle.solid_model.specs.Panels.{GridParts, coordinates_of, styles_along}
use Rattle.solid_model.specs.PerView.{of_view}
use Rattle.solid_model.specs.WalledBoxes.{Sizes, is_within, place_of_number}

-- how many grid cells stand in a row along each axis
abbrev pub grid_sizes : GridParts → Sizes
grid_sizes g = gaps_along (coordinates_of g)

-- the grid cell that has the numbers of a cell of this box
abbrev pub grid_cell_of : Cell → GridCell
grid_cell_of n a = place_of_number (coordinate a n)

-- A solid that is a union of grid cells, counted in them: full tells which grid cells it fills. Outside the box it fills none.
pub record IsGridFullness (g : GridParts) (s : List Cell) (full : Cell → Bool) : Type 0 where
  pub inside : (n c : Cell) → IsTrue (is_within (grid_sizes g) n) → LiesInGridCell (coordinates_of g) (grid_cell_of n) c → full n ≡ is_full s c
  pub outside : (n : Cell) → is_within (grid_sizes g) n ≡ false → full n ≡ false

-- ---- grid segments

-- the axes along and across the level, or the upright, segments of a view
abbrev pub axis_along : View → Bool → Axis
axis_along v upright = (along (frame_of v) upright).axis

abbrev pub axis_across : View → Bool → Axis
axis_across v upright = (across (frame_of v) upright).axis

-- the style of a view's level, or upright, grid segment on a line, along which it is the `cell`-th; Blank where there is none
abbrev pub grid_style : GridParts → View → Bool → ℤ → ℤ → Style
grid_style g v upright (pos line) (pos cell) =
    if nat_lt line (suc (grid_sizes g (axis_across v upright))) && nat_lt cell (grid_sizes g (axis_along v upright))
    then slice_index_or (styles_along upright (of_view v g.panels)) (line * grid_sizes g (axis_along v upright) + cell) Blank
    else Blank
grid_style g v upright _ _ = Blank
