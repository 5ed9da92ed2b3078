-- Drawings, kept as runs.
use Rattle.std.specs.Prelude.{◌≡◌, ◌≢◌, ◌⊎◌, Bool, ◌&&◌, List, [], ◌∷◌, ℤ, pos, ◌≤ℤ◌, ◌<ℤ◌, int_lt, int_le, if◌then◌else◌}
use Rattle.std.specs.Ordering.{int_eq}
use Rattle.solid_model.specs.declared.frame.View.{View}
use Rattle.solid_model.specs.declared.per_view.PerView.{PerView}
use Rattle.solid_model.specs.declared.runs.Run.{Run}
use Rattle.solid_model.specs.declared.segment.Segment.{Segment}
use Rattle.solid_model.specs.declared.segment.Style.{Style}
use Rattle.solid_model.specs.declared.segment.Style.TheVariants.{Blank}
use Rattle.solid_model.specs.Limits.{farthest_in_view}
use Rattle.lemmas.specs.Lists.{Each, Ascends}
use Rattle.solid_model.specs.Moved.{BeginsAt, Shows, SeesEachAxis}
use Rattle.solid_model.specs.PerView.{of_view}
use Rattle.solid_model.specs.Segments.{start_of, line_of, far_right, far_up}

-- ---- runs of one kind, level or upright

-- the run covers the unit length from z to z + 1 on the line j
abbrev pub run_covers : ℤ → ℤ → Run → Bool
run_covers j z r = int_eq r.at j && (int_le r.from z && int_lt z r.to)

-- the style of that unit length: that of the run which covers it, else Blank
abbrev pub run_style : List Run → ℤ → ℤ → Style
run_style [] j z = Blank
run_style (r ∷ rs) j z = if run_covers j z r then r.style else run_style rs j z

-- a run has some length and isn't blank
abbrev pub IsRun : Run → Type 0
IsRun r = (r.from <ℤ r.to) × (r.style ≢ Blank)

-- The run a stands before b, and they aren't one run: a lies on an earlier line; or on the same one, and ends before b
-- begins; or ends where b begins, and has another style.
abbrev pub StandsApart : Run → Run → Type 0
StandsApart a b = (a.at <ℤ b.at) ⊎ ((a.at ≡ b.at) × ((a.to <ℤ b.from) ⊎ ((a.to ≡ b.from) × (a.style ≢ b.style))))

-- Runs in order, by line and then start. No two overlap, and each is maximal, since where two meet their styles differ.
abbrev pub AreRuns : List Run → Type 0
AreRuns rs = Each IsRun rs × Ascends StandsApart rs

-- ---- three views of them

-- the runs of a view
pub record ViewRuns : Type 0 where
  pub level : List Run
  pub upright : List Run

-- the runs of the three views
abbrev pub DrawingRuns : Type 0
DrawingRuns = PerView ViewRuns

-- the level or the upright ones
abbrev pub runs_along : Bool → ViewRuns → List Run
runs_along upright v = if upright then v.upright else v.level

-- the style that a drawing gives a segment
abbrev pub style_in : DrawingRuns → Segment → Style
style_in d g = run_style (runs_along g.upright (of_view g.view d)) (line_of g) (start_of g)

-- ---- what a drawing keeps

-- each view that shows something begins at 0, at most one shows nothing, and nothing lies farther out than 2,000,000,000
pub record IsDrawing (drawing : Segment → Style) : Type 0 where
  pub begins : (v : View) → Shows drawing v → BeginsAt drawing v (pos 0) (pos 0)
  pub sees : SeesEachAxis drawing
  pub near : (g : Segment) → drawing g ≢ Blank → (far_right g ≤ℤ farthest_in_view) × (far_up g ≤ℤ farthest_in_view)
