-- The runs of a grid's segments: maximal stretches of cells of one style, line by line.
use Rattle.std.specs.Prelude.{◌≡◌, ◌≢◌, ◌⊎◌, Bool, ℕ, ◌+◌, ◌-◌, ◌*◌, ◌<◌, ◌≤◌, List, [], ◌∷◌, length, map, slice_index_or, ℤ, pos, ◌+ℤ◌, ◌≤ℤ◌, IsTrue}
use Rattle.std.specs.List.{flat_map}
use Rattle.solid_model.specs.declared.frame.View.{View}
use Rattle.solid_model.specs.declared.runs.Run.{Run}
use Rattle.solid_model.specs.declared.segment.Segment.{Segment}
use Rattle.solid_model.specs.declared.segment.Style.{Style}
use Rattle.solid_model.specs.declared.segment.Style.TheVariants.{Blank}
use Rattle.solid_model.specs.Frames.{frame_of, along, across}
use Rattle.solid_model.specs.Grid.{is_in_gap, IsInSomeGap}
use Rattle.solid_model.specs.Limits.{farthest_in_view}
use Rattle.lemmas.specs.Lists.{Member, Each}
use Rattle.solid_model.specs.Panels.{PanelsStyles, styles_along, AreGridStyles, GridParts, coordinates_of, IsGrid}
use Rattle.solid_model.specs.PerView.{of_view}
use Rattle.solid_model.specs.Runs.{run_style, AreRuns, DrawingRuns, runs_along}
use Rattle.redraw.specs.declared.text.Place.{Place}
use Rattle.redraw.specs.Files.{run_line, sheet_lines}
use Rattle.redraw.specs.Plain.{line_text, plain_file}

-- ---- the runs of a line

-- the style of a cell of a line; Blank beyond the last one
abbrev pub cell_style : List Style → ℕ → Style
cell_style styles cell = slice_index_or styles cell Blank

-- the cells from one up to but without another have one style, and the next one has another
pub record IsStretchEnd (styles : List Style) (from end : ℕ) : Type 0 where
  pub beyond : from < end
  pub within : end ≤ length styles
  pub same : (k : ℕ) → from ≤ k → k < end → cell_style styles k ≡ cell_style styles from
  pub differs : end < length styles → cell_style styles end ≢ cell_style styles from

-- the second list of runs is the first one, and behind it the runs of a line whose cells have these ends and styles
pub record IsWithLine (at : ℤ) (ends : List ℤ) (styles : List Style) (before after : List Run) : Type 0 where
  pub are_runs : AreRuns after
  pub members : (r : Run) → Member after r → Member before r ⊎ (r.at ≡ at)
  pub others : (j z : ℤ) → j ≢ at → run_style after j z ≡ run_style before j z
  pub shown : (cell : ℕ) (z : ℤ) → IsTrue (is_in_gap ends cell z) → run_style after at z ≡ cell_style styles cell
  pub off_ends : (z : ℤ) → (IsInSomeGap ends z → ⊥) → run_style after at z ≡ Blank

-- ---- the runs of all lines

-- these are the runs of lines whose cells have these ends and styles, line by line
pub record AreRunsOn (lines ends : List ℤ) (styles : List Style) (rs : List Run) : Type 0 where
  pub are_runs : AreRuns rs
  pub shown : (line cell : ℕ) (z : ℤ) → line < length lines → IsTrue (is_in_gap ends cell z)
      → run_style rs (slice_index_or lines line (pos 0)) z ≡ cell_style styles (line * (length ends - 1) + cell)
  pub off_lines : (j z : ℤ) → (Member lines j → ⊥) → run_style rs j z ≡ Blank
  pub off_ends : (j z : ℤ) → (IsInSomeGap ends z → ⊥) → run_style rs j z ≡ Blank

-- ---- what can be counted

-- a number from 0 to another
abbrev pub IsUpTo : ℤ → ℤ → Type 0
IsUpTo far z = (pos 0 ≤ℤ z) × (z ≤ℤ far)

-- the coordinates of a run are those of a grid
pub record IsNearRun (r : Run) : Type 0 where
  pub at : IsUpTo farthest_in_view r.at
  pub from : IsUpTo farthest_in_view r.from
  pub to : IsUpTo farthest_in_view r.to

-- a view stands no farther than 10 beyond what a grid can reach
pub record IsNearPlace (p : Place) : Type 0 where
  pub right : IsUpTo (farthest_in_view +ℤ pos 10) p.right
  pub up : IsUpTo (farthest_in_view +ℤ pos 10) p.up

-- ---- the runs of a view

-- where it is a grid, some drawing has these styles on it
abbrev pub HasDrawing : GridParts → PanelsStyles → Type 0
HasDrawing g panels = IsGrid g → (drawing : Segment → Style) × AreGridStyles drawing (coordinates_of g) panels

-- these are the runs of the level, or the upright, segments of a view on a grid, whose styles are these
pub record AreRunsAlong (g : GridParts) (panels : PanelsStyles) (v : View) (upright : Bool) (rs : List Run) : Type 0 where
  pub grid : IsGrid g
  pub on : AreRunsOn (coordinates_of g (across (frame_of v) upright).axis) (coordinates_of g (along (frame_of v) upright).axis)
      (styles_along upright (of_view v panels)) rs
  pub near : Each IsNearRun rs

-- all runs of three views are near
abbrev pub AreNearRuns : DrawingRuns → Type 0
AreNearRuns d = (v : View) (upright : Bool) → Each IsNearRun (runs_along upright (of_view v d))

-- the line of the last run; 0 where there is no run
abbrev pub last_line : List Run → ℤ
last_line [] = pos 0
last_line (r ∷ []) = r.at
last_line (r ∷ s ∷ rs) = last_line (s ∷ rs)

-- ---- the text

-- the lines of the level, or the upright, runs of a view that stands so far to the right and upwards
abbrev pub runs_text : ℕ → View → Bool → ℤ → ℤ → List Run → List ℕ
runs_text decimals v upright right up rs = flat_map (line_text decimals) (map (run_line v upright right up) rs)

-- the file of the runs of three views: the farthest lines of the front view tell how far they reach
abbrev pub sheet_text : ℕ → DrawingRuns → List ℕ
sheet_text decimals d = plain_file decimals (sheet_lines (last_line d.front.upright) (last_line d.front.level) d)
