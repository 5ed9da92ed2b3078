-- The written file of a solid: the runs of its drawing as lines, its three views beside one another on one sheet.
-- Coordinates are the solid's own and aren't moved to 0 first: what is redrawn or made begins there already.
use Rattle.std.specs.Prelude.{◌≡◌, Bool, true, false, ℕ, List, ◌++◌, map, ℤ, pos, ◌+ℤ◌, ◌<ℤ◌, IsTrue}
use Rattle.solid_model.specs.declared.cell.Axis.{Axis}
use Rattle.solid_model.specs.declared.cell.Axis.TheVariants.{X, Z}
use Rattle.solid_model.specs.declared.cell.Cell.{Cell}
use Rattle.solid_model.specs.declared.frame.View.{View}
use Rattle.solid_model.specs.declared.frame.View.TheVariants.{Front, Top, Side}
use Rattle.solid_model.specs.declared.runs.Run.{Run}
use Rattle.solid_model.specs.declared.segment.Segment.{Segment}
use Rattle.solid_model.specs.declared.segment.Style.{Style}
use Rattle.solid_model.specs.Cells.{coordinate, is_full}
use Rattle.solid_model.specs.DrawnStyle.{solid_drawing}
use Rattle.solid_model.specs.Line.{Line}
use Rattle.solid_model.specs.Runs.{AreRuns, ViewRuns, DrawingRuns, runs_along, style_in}
use Rattle.solid_model.specs.PerView.{of_view}
use Rattle.solid_model.specs.Segments.{along_of, across_of}
use Rattle.redraw.specs.Plain.{plain_file}

-- ---- the runs of a drawing

-- the level and the upright runs of each view, which show what the drawing shows
pub record AreRunsOf (drawing : Segment → Style) (d : DrawingRuns) : Type 0 where
  pub runs : (v : View) (upright : Bool) → AreRuns (runs_along upright (of_view v d))
  pub show : (g : Segment) → style_in d g ≡ drawing g

-- ---- the sheet

-- how far the solid reaches: the greatest coordinate of its points along an axis
pub record IsFarEnd (full : Cell → Bool) (a : Axis) (far : ℤ) : Type 0 where
  pub reached : (c : Cell) × IsTrue (full c) × (coordinate a c +ℤ pos 1 ≡ far)
  pub within : (c : Cell) → IsTrue (full c) → coordinate a c <ℤ far

-- how far to the right a view stands, where the solid reaches so far along x: the side view 10 units beyond the front view
abbrev pub right_on_sheet : ℤ → View → ℤ
right_on_sheet far Front = pos 0
right_on_sheet far Top = pos 0
right_on_sheet far Side = far +ℤ pos 10

-- how far upwards a view stands, where it reaches so far along z: the top view 10 units above the front view
abbrev pub up_on_sheet : ℤ → View → ℤ
up_on_sheet far Front = pos 0
up_on_sheet far Top = far +ℤ pos 10
up_on_sheet far Side = pos 0

-- a run of a view as a line, from its lesser end to its greater one, so far to the right and upwards
abbrev pub run_line : View → Bool → ℤ → ℤ → Run → Line
run_line v upright right up r = record {
  of = v;
  style = r.style;
  x0 = across_of upright r.at r.from +ℤ right;
  y0 = along_of upright r.at r.from +ℤ up;
  x1 = across_of upright r.at r.to +ℤ right;
  y1 = along_of upright r.at r.to +ℤ up;
  number = 0;
}

-- the lines of a view, the level ones first
abbrev pub view_lines : View → ℤ → ℤ → ViewRuns → List Line
view_lines v right up runs = map (run_line v false right up) runs.level ++ map (run_line v true right up) runs.upright

-- the lines of a view on the sheet of a solid that reaches so far along x and z
abbrev pub placed_lines : ℤ → ℤ → DrawingRuns → View → List Line
placed_lines far_x far_z d v = view_lines v (right_on_sheet far_x v) (up_on_sheet far_z v) (of_view v d)

-- the lines of all three
abbrev pub sheet_lines : ℤ → ℤ → DrawingRuns → List Line
sheet_lines far_x far_z d = placed_lines far_x far_z d Front ++ (placed_lines far_x far_z d Top ++ placed_lines far_x far_z d Side)

-- ---- the file

-- the sheet on which a solid's own drawing is written: the runs of the drawing, and how far the solid reaches
pub record IsSheetOf (s : List Cell) (far_x far_z : ℤ) (d : DrawingRuns) : Type 0 where
  pub runs : AreRunsOf (solid_drawing s) d
  pub right : IsFarEnd (is_full s) X far_x
  pub up : IsFarEnd (is_full s) Z far_z

-- the written file of a solid, whose coordinates have so many decimals
abbrev pub IsFileOf : ℕ → List Cell → List ℕ → Type 0
IsFileOf decimals s text = (far_x far_z : ℤ) × (d : DrawingRuns) × IsSheetOf s far_x far_z d
    × (text ≡ plain_file decimals (sheet_lines far_x far_z d))
