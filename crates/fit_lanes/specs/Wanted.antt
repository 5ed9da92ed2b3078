-- What a layer has to show on a grid, where what it draws begins at given lines of it.
use Rattle.std.specs.Prelude.{◌≡◌, ◌↔◌, ◌+◌, ◌-◌, ◌*◌, ◌<◌, Bool, true, false, ℕ, List, length, map, slice_index_or, ℤ, pos, IsTrue}
use Rattle.solid_model.specs.declared.runs.Run.{Run}
use Rattle.solid_model.specs.declared.segment.Style.{Style}
use Rattle.solid_model.specs.declared.segment.Style.TheVariants.{Blank}
use Rattle.solid_model.specs.Frames.{along, across}
use Rattle.solid_model.specs.Grid.{Coordinates, gaps_along}
use Rattle.solid_model.specs.Panels.{coordinates_of}
use Rattle.solid_model.specs.Runs.{run_style, ViewRuns, runs_along}
use Rattle.solid_model.specs.Segments.{along_of, across_of}
use Rattle.redraw.specs.GridRuns.{AreRunsOn}
use Rattle.dxf_entities.specs.declared.layer.Layer.{Layer}
use Rattle.six_views.specs.SightFrames.{sight_frame}
use Rattle.six_views.specs.MovedRuns.{moved_run}
use Rattle.six_views.specs.Turned.{turned_coordinates}
use Rattle.fit_lanes.specs.Points.{ArePointBytes}
use Rattle.fit_lanes.specs.Sights.{width, height}
use Rattle.fit_lanes.specs.Tests.{LayerAsked}

-- the styles that runs give the cells between these ends on these lines, line by line
pub record AreShownStyles (lines ends : List ℤ) (runs : List Run) (styles : List Style) : Type 0 where
  pub count : length styles ≡ length lines * (length ends - 1)
  pub each : (line cell : ℕ) → line < length lines → cell < length ends - 1
      → slice_index_or styles (line * (length ends - 1) + cell) Blank ≡ run_style runs (slice_index_or lines line (pos 0)) (slice_index_or ends cell (pos 0))

-- the shown runs, moved to the line and the end of these numbers
abbrev pub placed_runs : List ℤ → List ℤ → ℕ → ℕ → List Run → List Run
placed_runs lines ends m n shown = map (moved_run (slice_index_or lines m (pos 0)) (slice_index_or ends n (pos 0))) shown

-- styles of the cells between these ends on these lines, and their runs
pub record HaveRuns (lines ends : List ℤ) (styles : List Style) (runs : List Run) : Type 0 where
  pub count : length styles ≡ length lines * (length ends - 1)
  pub runs_on : AreRunsOn lines ends styles runs

-- styles have the shown runs, moved there, exactly where they are these
pub record AreWantedStyles (lines ends : List ℤ) (m n : ℕ) (shown : List Run) (wanted : List Style) : Type 0 where
  pub count : length wanted ≡ length lines * (length ends - 1)
  pub exact : (styles : List Style) (runs : List Run) → HaveRuns lines ends styles runs → (runs ≡ placed_runs lines ends m n shown) ↔ (styles ≡ wanted)

-- no styles have them
abbrev pub AreNeverShown : List ℤ → List ℤ → ℕ → ℕ → List Run → Type 0
AreNeverShown lines ends m n shown = (styles : List Style) (runs : List Run) → HaveRuns lines ends styles runs → runs ≡ placed_runs lines ends m n shown → ⊥

-- ---- of a further view

-- the lines of the turned grid on which its level, or its upright, segments lie, and the ends between which they do
abbrev pub turned_lines : Coordinates → Layer → Bool → List ℤ
turned_lines coordinates x upright = turned_coordinates x coordinates (across (sight_frame x) upright).axis

abbrev pub turned_ends : Coordinates → Layer → Bool → List ℤ
turned_ends coordinates x upright = turned_coordinates x coordinates (along (sight_frame x) upright).axis

-- bytes by the points of a view's grid, and the runs of what they tell
abbrev pub TellRuns : Coordinates → Layer → Bool → List ℕ → List Run → Type 0
TellRuns coordinates x upright bytes runs = (styles : List Style) × HaveRuns (turned_lines coordinates x upright) (turned_ends coordinates x upright) styles runs
    × ArePointBytes (width x (gaps_along coordinates)) (height x (gaps_along coordinates)) upright styles bytes

-- runs are the shown ones, moved to the upright and the level line of these numbers
abbrev pub ArePlaced : Coordinates → Layer → ViewRuns → ℕ → ℕ → Bool → List Run → Type 0
ArePlaced coordinates x shown right up upright runs =
    runs ≡ placed_runs (turned_lines coordinates x upright) (turned_ends coordinates x upright) (across_of upright right up) (along_of upright right up) (runs_along upright shown)

-- bytes tell them exactly where they are these
abbrev pub AreWantedBytes : Coordinates → Layer → ViewRuns → ℕ → ℕ → Bool → List ℕ → Type 0
AreWantedBytes coordinates x shown right up upright wanted = (bytes : List ℕ) (runs : List Run) → TellRuns coordinates x upright bytes runs
    → ArePlaced coordinates x shown right up upright runs ↔ (bytes ≡ wanted)

-- no bytes tell them
abbrev pub AreNeverDrawn : Coordinates → Layer → ViewRuns → ℕ → ℕ → Bool → Type 0
AreNeverDrawn coordinates x shown right up upright = (bytes : List ℕ) (runs : List Run) → TellRuns coordinates x upright bytes runs
    → ArePlaced coordinates x shown right up upright runs → ⊥

-- a layer that is asked for, and where on the grid it is looked for
pub record WantedParts : Type 0 where
  pub asked : LayerAsked
  pub right : ℕ
  pub up : ℕ

-- whether the bytes of its level and of its upright segments tell what is wanted there
abbrev pub TellsPlaced : WantedParts → List ℕ → List ℕ → Bool → Type 0
TellsPlaced w level upright told = (level_runs upright_runs : List Run)
    → TellRuns (coordinates_of w.asked.problem.grid) w.asked.asked.layer false level level_runs
    → TellRuns (coordinates_of w.asked.problem.grid) w.asked.asked.layer true upright upright_runs
    → IsTrue told ↔ (ArePlaced (coordinates_of w.asked.problem.grid) w.asked.asked.layer w.asked.asked.runs w.right w.up false level_runs
    × ArePlaced (coordinates_of w.asked.problem.grid) w.asked.asked.layer w.asked.asked.runs w.right w.up true upright_runs)
