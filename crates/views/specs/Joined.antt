-- Runs that a settled piece of a stroke is joined to.
use Rattle.std.specs.Prelude.{◌≡◌, ◌⊎◌, Bool, ◌&&◌, List, [], ◌∷◌, ℤ, ◌≤ℤ◌, ◌<ℤ◌}
use Rattle.std.specs.Ordering.{int_eq}
use Rattle.solid_model.specs.declared.runs.Run.{Run}
use Rattle.solid_model.specs.Drawings.{same_style}
use Rattle.lemmas.specs.Lists.{Each}
use Rattle.solid_model.specs.Runs.{run_style, AreRuns}
use Rattle.views.specs.declared.strokes.Stroke.{Stroke}
use Rattle.views.specs.Strokes.{stroke_style, stronger}

-- the run lies on an earlier line, or on this one and ends no later than the place
abbrev pub EndsBy : ℤ → ℤ → Run → Type 0
EndsBy at place r = (r.at <ℤ at) ⊎ ((r.at ≡ at) × (r.to ≤ℤ place))

-- each of the runs does
abbrev pub EndBy : ℤ → ℤ → List Run → Type 0
EndBy at place rs = Each (EndsBy at place) rs

-- a settled piece, as a run
abbrev pub run_of : Stroke → Run
run_of p = record { at = p.at; from = p.from; to = p.to; style = p.style }

-- the piece goes on with the run: it begins where the run ends, in the same style
abbrev pub goes_on : Run → Stroke → Bool
goes_on r p = int_eq r.at p.at && (int_eq r.to p.from && same_style r.style p.style)

-- the run, as far as the piece goes
abbrev pub as_far_as : Run → Stroke → Run
as_far_as r p = record r { to = p.to }

-- The runs with the piece at their end: they are runs, end where the runs and the piece do, and draw
-- what both draw.
pub record AreWith (p : Stroke) (rs joined : List Run) : Type 0 where
  pub are_runs : AreRuns joined
  pub end_by : (place : ℤ) → EndBy p.at place rs → p.to ≤ℤ place → EndBy p.at place joined
  pub drawn : (j z : ℤ)
      → run_style joined j z ≡ stronger (run_style rs j z) (stroke_style (p ∷ []) j z)
