-- What is wanted of styles is wanted of their bytes.
use Rattle.std.proofs.Common.{◌≡◌, Bool, true, false, ℕ, ◌+◌, ◌-◌, ◌*◌, ◌<◌, List, length, ℤ, ap₂, ◌∙◌, arith}
use Rattle.solid_model.specs.declared.cell.Axis.{Axis}
use Rattle.solid_model.specs.declared.segment.Style.{Style}
use Rattle.solid_model.specs.Grid.{Coordinates, gaps_along}
use Rattle.solid_model.specs.Runs.{ViewRuns, runs_along}
use Rattle.solid_model.specs.Segments.{along_of, across_of}
use Rattle.dxf_entities.specs.declared.layer.Layer.{Layer}
use Rattle.six_views.specs.SightFrames.{sight_frame}
use Rattle.six_views.specs.Turned.{turned_coordinates}
use Rattle.six_views.proofs.TurnedGrid.{count-turned}
use Rattle.fit_lanes.specs.Points.{ArePointBytes}
use Rattle.fit_lanes.specs.Sights.{width, height}
use Rattle.fit_lanes.specs.Wanted.{AreWantedStyles, AreNeverShown, turned_lines, turned_ends, AreWantedBytes, AreNeverDrawn}
use Rattle.fit_lanes.proofs.ByLines.{same_bytes, same_styles}

module _ (x : Layer) (coordinates : Coordinates) (some : (b : Axis) → 0 < length (coordinates b)) (upright : Bool) where
  abbrev w : ℕ
  w = width x (gaps_along coordinates)

  abbrev h : ℕ
  h = height x (gaps_along coordinates)

  abbrev lines : List ℤ
  lines = turned_lines coordinates x upright

  abbrev ends : List ℤ
  ends = turned_ends coordinates x upright

  counted : (a : Axis) → length (turned_coordinates x coordinates a) ≡ (length (coordinates a) - 1) + 1
  counted a = let l = some a in omega (arith, count-turned x coordinates a)

  -- there is a line more than cells across,
  pub lines_count : length lines ≡ across_of upright w h + 1
  lines_count = by upright
    where
      by : (u : Bool) → length (turned_lines coordinates x u) ≡ across_of u w h + 1
      by true = counted (sight_frame x).right.axis
      by false = counted (sight_frame x).up.axis

  -- and an end more than cells along
  pub ends_count : length ends - 1 ≡ along_of upright w h
  ends_count = by upright
    where
      by : (u : Bool) → length (turned_ends coordinates x u) - 1 ≡ along_of u w h
      by true = let e = counted (sight_frame x).up.axis in omega arith
      by false = let e = counted (sight_frame x).right.axis in omega arith

  -- so there are so many styles
  styles_count : (styles : List Style) → length styles ≡ length lines * (length ends - 1) → length styles ≡ (across_of upright w h + 1) * along_of upright w h
  styles_count styles count = count ∙ ap₂ ◌*◌ lines_count ends_count

  module _ (shown : ViewRuns) (right up : ℕ) where
    pub bytes_wanted : (wanted : List Style) (bytes : List ℕ)
        → AreWantedStyles lines ends (across_of upright right up) (along_of upright right up) (runs_along upright shown) wanted → ArePointBytes w h upright wanted bytes
        → AreWantedBytes coordinates x shown right up upright bytes
    bytes_wanted wanted bytes are of own runs (styles, have, tell) =
        let told = are.exact styles runs have in (
          (λ same. same_bytes w h upright styles wanted own bytes tell of (told.0 same)),
          (λ same. told.1 (same_styles w h upright styles wanted own bytes tell of (styles_count styles have.count) (styles_count wanted are.count) same)),
        )

    pub never_drawn : AreNeverShown lines ends (across_of upright right up) (along_of upright right up) (runs_along upright shown) → AreNeverDrawn coordinates x shown right up upright
    never_drawn never own runs (styles, have, tell) = never styles runs have
