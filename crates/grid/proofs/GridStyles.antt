-- The styles of a view's grid segments, line by line.
use Rattle.std.proofs.Common.{◌≡◌, Bool, true, false, List, map, ℤ, refl}
use Rattle.std.specs.List.{flat_map}
use Rattle.solid_model.specs.declared.frame.View.{View}
use Rattle.solid_model.specs.declared.segment.Style.{Style}
use Rattle.solid_model.specs.Frames.{frame_of, along, across}
use Rattle.solid_model.specs.Grid.{Coordinates}
use Rattle.solid_model.specs.Panels.{starts_of, grid_styles}
use Rattle.solid_model.specs.Runs.{run_style, DrawingRuns, runs_along, style_in}
use Rattle.solid_model.specs.PerView.{of_view}

-- the styles that runs give the unit lengths which begin at these places on the lines
abbrev pub styles_by : List ℤ → List ℤ → (ℤ → ℤ → Style) → List Style
styles_by lines starts style = flat_map (λ line. map (style line) starts) lines

-- a grid's styles are those that the view's runs give
pub grid_styles-runs : (d : DrawingRuns) (coordinates : Coordinates) (v : View) (upright : Bool)
    → styles_by (coordinates (across (frame_of v) upright).axis) (starts_of (coordinates (along (frame_of v) upright).axis)) (run_style (runs_along upright (of_view v d)))
    ≡ grid_styles (style_in d) coordinates v upright
grid_styles-runs d coordinates v true = refl
grid_styles-runs d coordinates v false = refl
