-- The positions that runs and views show.
use Rattle.std.specs.Prelude.{◌≡◌, ◌⊎◌, Bool, ◌&&◌, ◌||◌, List, [], ◌∷◌, map, ℤ, int_lt, int_le}
use Rattle.std.specs.List.{flat_map}
use Rattle.std.specs.Ordering.{int_eq}
use Rattle.solid_model.specs.declared.cell.Axis.{Axis}
use Rattle.solid_model.specs.declared.frame.View.{View}
use Rattle.solid_model.specs.declared.runs.Run.{Run}
use Rattle.solid_model.specs.declared.segment.Segment.{Segment}
use Rattle.solid_model.specs.declared.segment.Style.{Style}
use Rattle.solid_model.specs.Frames.{frame_of, along}
use Rattle.solid_model.specs.Grid.{IsDrawnAcross, ChangesAt}
use Rattle.lemmas.specs.Lists.{Member}

-- where runs begin and end
abbrev pub ends_of : List Run → List ℤ
ends_of rs = flat_map (λ r. r.from ∷ r.to ∷ []) rs

-- on which lines they lie
abbrev pub run_lines : List Run → List ℤ
run_lines rs = map (λ r. r.at) rs

-- the run lies on an earlier line, or begins no later than the place z on the line j
abbrev pub begins_by : ℤ → ℤ → Run → Bool
begins_by j z r = int_lt r.at j || (int_eq r.at j && int_le r.from z)

-- along its level, or its upright, segments, which run along the axis, a view shows something at z
abbrev pub ShowsByKind : (Segment → Style) → Axis → View → Bool → ℤ → Type 0
ShowsByKind drawing a v upright z = ((along (frame_of v) upright).axis ≡ a)
    × (IsDrawnAcross drawing v upright z ⊎ ChangesAt drawing v upright z)

-- it does so along the one kind or the other
abbrev pub ShowsInView : (Segment → Style) → Axis → View → ℤ → Type 0
ShowsInView drawing a v z = (upright : Bool) × ShowsByKind drawing a v upright z

-- some view of the list does so
abbrev pub ShowsInSomeView : (Segment → Style) → Axis → List View → ℤ → Type 0
ShowsInSomeView drawing a vs z = (v : View) × Member vs v × ShowsInView drawing a v z
