-- What a sweep over strokes has seen.
use Rattle.std.specs.Prelude.{◌≡◌, List, [], ◌∷◌, ℤ}
use Rattle.std.specs.Int.{int_min, int_max}
use Rattle.solid_model.specs.declared.segment.Style.{Style}
use Rattle.solid_model.specs.declared.segment.Style.TheVariants.{Dashed, Solid}
use Rattle.solid_model.specs.Runs.{run_style, AreRuns}
use Rattle.views.specs.declared.strokes.Stroke.{Stroke}
use Rattle.views.specs.declared.sweep.Sweep.{Sweep}
use Rattle.views.specs.Joined.{EndBy}
use Rattle.views.specs.Strokes.{stroke_style, stronger}

-- a stroke, by its parts
abbrev pub stroke : ℤ → ℤ → ℤ → Style → Stroke
stroke at from to style = record { at = at; from = from; to = to; style = style }

-- what is drawn solid on the line from the place at which the sweep stands to another
abbrev pub solid_piece : Sweep → ℤ → Stroke
solid_piece s until = stroke s.at s.from (int_min s.solid_to until) Solid

-- and what is drawn dashed there, where nothing solid is
abbrev pub dashed_piece : Sweep → ℤ → Stroke
dashed_piece s until = stroke s.at (int_max s.from s.solid_to) (int_min s.dashed_to until) Dashed

-- what reaches beyond the place at which the sweep stands
abbrev pub open_strokes : Sweep → List Stroke
open_strokes s = stroke s.at s.from s.solid_to Solid ∷ stroke s.at s.from s.dashed_to Dashed ∷ []

-- the style that it has seen there: of its runs, or of what reaches beyond
abbrev pub seen_style : Sweep → ℤ → ℤ → Style
seen_style s j z = stronger (run_style s.runs.items j z) (stroke_style (open_strokes s) j z)

-- the sweep has seen what these strokes draw
abbrev pub HasSeen : List Stroke → Sweep → Type 0
HasSeen ss s = (j z : ℤ) → seen_style s j z ≡ stroke_style ss j z

-- it has seen what another has
abbrev pub HasSeenAs : Sweep → Sweep → Type 0
HasSeenAs other s = (j z : ℤ) → seen_style s j z ≡ seen_style other j z

-- it has seen what another has, and the stroke
abbrev pub HasSeenWith : Stroke → Sweep → Sweep → Type 0
HasSeenWith p other s = (j z : ℤ)
    → seen_style s j z ≡ stronger (seen_style other j z) (stroke_style (p ∷ []) j z)

-- what is kept as the sweep goes on: its runs are in order and maximal, and end by the place at which
-- it stands
pub record KeepsRuns (s : Sweep) : Type 0 where
  pub are_runs : AreRuns s.runs.items
  pub end_by : EndBy s.at s.from s.runs.items

-- it stands at that place
abbrev pub IsSweepAt : ℤ → ℤ → Sweep → Type 0
IsSweepAt at from s = (s.at ≡ at) × (s.from ≡ from)
