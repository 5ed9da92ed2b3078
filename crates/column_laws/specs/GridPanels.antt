-- What the unions of chosen grid cells draw on the segments of a grid.
use Rattle.std.specs.Prelude.{◌≡◌, ◌<◌, ◌≤◌, Bool, ℕ, suc, List, length, ℤ, ◌<ℤ◌}
use Rattle.solid_model.specs.declared.cell.Axis.{Axis}
use Rattle.solid_model.specs.declared.cell.Cell.{Cell}
use Rattle.solid_model.specs.declared.frame.Frame.{Frame}
use Rattle.solid_model.specs.declared.frame.View.{View}
use Rattle.solid_model.specs.declared.segment.Style.{Style}
use Rattle.solid_model.specs.Cells.{is_full}
use Rattle.solid_model.specs.Columns.{ColumnsDraw}
use Rattle.solid_model.specs.DrawnStyle.{solid_drawing}
use Rattle.solid_model.specs.Frames.{across}
use Rattle.solid_model.specs.Grid.{Coordinates, IsUnionOf}
use Rattle.lemmas.specs.Lists.{Ascends}
use Rattle.solid_model.specs.Panels.{PanelsStyles, AreGridStyles, grid_styles}
use Rattle.solid_model.specs.Segments.{across_of, along_of}
use Rattle.lemmas.specs.Bits.{bits}
use Rattle.column_laws.specs.GridColumns.{grid_column}

-- the coordinates of a grid, so many along each axis
pub record HasCounts (counts : Axis → ℕ) (coordinates : Coordinates) : Type 0 where
  pub ordered : (a : Axis) → Ascends ◌<ℤ◌ (coordinates a)
  pub count : (a : Axis) → length (coordinates a) ≡ counts a

-- the column beside a line: that of the grid cells there, and empty beyond the last line
pub record IsColumnBeside (f : Frame) (sizes : Axis → ℕ) (chosen : List Bool) (upright : Bool) (start line n : ℕ) : Type 0 where
  pub inside : line < sizes (across f upright).axis → (k : ℤ) → bits n k ≡ grid_column f sizes chosen (across_of upright line start) (along_of upright line start) k
  pub outside : sizes (across f upright).axis ≤ line → n ≡ 0

-- the columns after and before a line
pub record AreColumnsBeside (f : Frame) (sizes : Axis → ℕ) (chosen : List Bool) (upright : Bool) (start line after before : ℕ) : Type 0 where
  pub after_is : IsColumnBeside f sizes chosen upright start line after
  pub before_first : line ≡ 0 → before ≡ 0
  pub before_is : (l : ℕ) → line ≡ suc l → IsColumnBeside f sizes chosen upright start l before

-- the style that these two columns draw
abbrev pub IsStyleBetween : Frame → (Axis → ℕ) → List Bool → Bool → ℕ → ℕ → Style → Type 0
IsStyleBetween f sizes chosen upright start line style = (after before : ℕ)
    × AreColumnsBeside f sizes chosen upright start line after before × ColumnsDraw (bits after) (bits before) style

-- these are the styles that each union of the chosen cells draws on the level, or the upright, segments of a view
abbrev pub AreStylesAlong : (Axis → ℕ) → List Bool → View → Bool → List Style → Type 0
AreStylesAlong counts chosen v upright styles = (coordinates : Coordinates) → HasCounts counts coordinates
    → (s : List Cell) → IsUnionOf coordinates chosen (is_full s) → styles ≡ grid_styles (solid_drawing s) coordinates v upright

-- these are the styles that each union of the chosen cells draws on all of them
abbrev pub ArePanels : (Axis → ℕ) → List Bool → PanelsStyles → Type 0
ArePanels counts chosen panels = (coordinates : Coordinates) → HasCounts counts coordinates
    → (s : List Cell) → IsUnionOf coordinates chosen (is_full s) → AreGridStyles (solid_drawing s) coordinates panels
